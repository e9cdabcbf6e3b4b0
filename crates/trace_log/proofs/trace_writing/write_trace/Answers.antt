use Rattle.std.proofs.Common.{◌++◌, ◌∷◌, [], ◌∙◌, ap, map, decimal, subst}
use Rattle.std.specs.Prelude.{All, codes}
use Rattle.json.specs.Token.{begin_object, end_object, number, key}
use Rattle.trace_log.specs.TraceData.{text_data, list_data, entry_data}
use Rattle.trace_log.specs.TraceHeld.{IsHeldEntry}
use Rattle.trace_log.specs.TraceTokens.{data_tokens}
use Rattle.trace_log.proofs.TokenLaws.{seven, trace_written}
use Rattle.trace_log.proofs.trace_writing.write_trace.Goals as goal

pub returns-clause-tokens : goal.returns-clause-tokens
returns-clause-tokens c =
    let t = c.args.trace.now in
    let old = c.args.writer.now.tokens in
    let entries = c.as_slice.result.now in
    let begun = c.in_ok-begin_object.ensures in
    let listed = c.in_ok-put_entries.ensures.tokens in
    let target = c.in_ok-put_text.ensures.tokens in
    let transformation = c.in_ok-put_text-2.ensures.tokens in
    let version_key = c.in_ok-key.ensures in
    let version = c.in_ok-u64.ensures in
    let ended = c.in_ok-end_object.ensures in (
      ended.room.0 ∙ version.room.0 ∙ version_key.room.0 ∙ transformation.0 ∙ target.0 ∙ listed.0 ∙ begun.room.0,
      seven old c.begin_object.new.self.tokens c.put_entries.new.writer.tokens c.put_text.new.writer.tokens c.put_text-2.new.writer.tokens
          c.key.new.self.tokens c.u64.new.self.tokens c.end_object.new.self.tokens (begin_object ∷ [])
          (key (codes "entries") ∷ data_tokens (list_data (map entry_data entries))) (key (codes "target") ∷ data_tokens (text_data t.target))
          (key (codes "transformation") ∷ data_tokens (text_data t.transformation)) (key (codes "version") ∷ []) (number (decimal 1) ∷ [])
          (end_object ∷ []) begun.ok listed.1 target.1 transformation.1 version_key.ok version.ok ended.ok
          ∙ ap (λ ts. old ++ ts) (trace_written t entries c.as_slice.ensures),
    )

pub returns-clause-held : goal.returns-clause-held
returns-clause-held c = record {
  transformation = c.in_ok-put_text-2.ensures.held;
  target = c.in_ok-put_text.ensures.held;
  entries = subst (All IsHeldEntry) c.as_slice.ensures c.in_ok-put_entries.ensures.held;
}
