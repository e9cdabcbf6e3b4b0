use Rattle.std.proofs.Common.{◌++◌, ◌∷◌, [], ◌∙◌, sym, ap}
use Rattle.std.specs.List.{flat_map}
use Rattle.json.specs.Token.{key, begin_array, end_array}
use Rattle.trace_log.specs.TraceData.{entry_data}
use Rattle.trace_log.specs.TraceTokens.{data_tokens}
use Rattle.trace_log.proofs.TokenLaws.{after, list_written}
use Rattle.trace_log.proofs.trace_writing.put_entries.Goals as goal

pub returns-clause-tokens : goal.returns-clause-tokens
returns-clause-tokens c =
    let old = c.args.writer.now.tokens in
    let named = c.key.new.self.tokens in
    let begun = c.begin_array.new.self.tokens in
    let each = c.write_entries.new.writer.tokens in
    let new = c.end_array.new.self.tokens in
    let tokens = flat_map (λ x. data_tokens (entry_data x)) c.args.entries.now in (
      c.in_ok-end_array.ensures.room.0 ∙ c.in_ok-write_entries.ensures.tokens.0 ∙ c.in_ok-begin_array.ensures.room.0 ∙ c.in_ok-key.ensures.room.0,
      after old named new (key c.args.name.now ∷ []) (begin_array ∷ (tokens ++ end_array ∷ [])) c.in_ok-key.ensures.ok
          (after named begun new (begin_array ∷ []) (tokens ++ end_array ∷ []) c.in_ok-begin_array.ensures.ok
          (after begun each new tokens (end_array ∷ []) c.in_ok-write_entries.ensures.tokens.1 c.in_ok-end_array.ensures.ok))
          ∙ ap (λ ts. old ++ key c.args.name.now ∷ ts) (sym (list_written entry_data c.args.entries.now)),
    )
