use Rattle.std.proofs.Common.{◌++◌, ◌∷◌, [], ◌∙◌, ap, map, subst}
use Rattle.std.specs.Prelude.{All, codes}
use Rattle.json.specs.Token.{begin_object, end_object, boolean, key}
use Rattle.trace_log.specs.TraceData.{text_data, list_data, pair_data, demand_data}
use Rattle.trace_log.specs.TraceHeld.{AreHeldPairs, IsHeldDemand}
use Rattle.trace_log.specs.TraceTokens.{data_tokens}
use Rattle.trace_log.proofs.TokenLaws.{seven, entry_written}
use Rattle.trace_log.proofs.trace_writing.write_entry.Goals as goal

pub returns-clause-tokens : goal.returns-clause-tokens
returns-clause-tokens c =
    let x = c.args.entry.now in
    let old = c.args.writer.now.tokens in
    let demands = c.as_slice.result.now in
    let made = c.as_slice-2.result.now in
    let values = c.as_slice-3.result.now in
    let begun = c.in_ok-begin_object.ensures in
    let called = c.in_ok-put_flag.ensures in
    let demanded = c.in_ok-put_demands.ensures.tokens in
    let making = c.in_ok-put_bindings.ensures.tokens in
    let named = c.in_ok-put_text.ensures.tokens in
    let valued = c.in_ok-put_bindings-2.ensures.tokens in
    let ended = c.in_ok-end_object.ensures in (
      ended.room.0 ∙ valued.0 ∙ named.0 ∙ making.0 ∙ demanded.0 ∙ called.0 ∙ begun.room.0,
      seven old c.begin_object.new.self.tokens c.put_flag.new.writer.tokens c.put_demands.new.writer.tokens c.put_bindings.new.writer.tokens
          c.put_text.new.writer.tokens c.put_bindings-2.new.writer.tokens c.end_object.new.self.tokens (begin_object ∷ [])
          (key (codes "called") ∷ boolean x.called ∷ []) (key (codes "demands") ∷ data_tokens (list_data (map demand_data demands)))
          (key (codes "made") ∷ data_tokens (list_data (map pair_data made))) (key (codes "relation") ∷ data_tokens (text_data x.relation))
          (key (codes "values") ∷ data_tokens (list_data (map pair_data values))) (end_object ∷ []) begun.ok called.1 demanded.1 making.1 named.1
          valued.1 ended.ok
          ∙ ap (λ ts. old ++ ts) (entry_written x demands made values c.as_slice.ensures c.as_slice-2.ensures c.as_slice-3.ensures),
    )

pub returns-clause-held : goal.returns-clause-held
returns-clause-held c = record {
  relation = c.in_ok-put_text.ensures.held;
  values = subst AreHeldPairs c.as_slice-3.ensures c.in_ok-put_bindings-2.ensures.held;
  made = subst AreHeldPairs c.as_slice-2.ensures c.in_ok-put_bindings.ensures.held;
  demands = subst (All IsHeldDemand) c.as_slice.ensures c.in_ok-put_demands.ensures.held;
}
