use Rattle.std.proofs.Common.{◌++◌, ◌∷◌, [], ◌∙◌, sym, ap}
use Rattle.json.specs.Token.{begin_array, end_array}
use Rattle.trace_log.specs.TraceData.{pair_data}
use Rattle.trace_log.specs.TraceTokens.{pairs_tokens}
use Rattle.trace_log.proofs.TokenLaws.{after, list_written}
use Rattle.trace_log.proofs.trace_pairs.write_bindings.Goals as goal

pub returns-clause-tokens : goal.returns-clause-tokens
returns-clause-tokens c =
    let old = c.args.writer.now.tokens in
    let begun = c.begin_array.new.self.tokens in
    let each = c.write_pairs.new.writer.tokens in
    let new = c.end_array.new.self.tokens in
    let tokens = pairs_tokens c.args.pairs.now in (
      c.in_ok-end_array.ensures.room.0 ∙ c.in_ok-write_pairs.ensures.tokens.0 ∙ c.in_ok-begin_array.ensures.room.0,
      after old begun new (begin_array ∷ []) (tokens ++ end_array ∷ []) c.in_ok-begin_array.ensures.ok
          (after begun each new tokens (end_array ∷ []) c.in_ok-write_pairs.ensures.tokens.1 c.in_ok-end_array.ensures.ok)
          ∙ ap (λ ts. old ++ ts) (sym (list_written pair_data c.args.pairs.now)),
    )
