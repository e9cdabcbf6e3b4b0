use Rattle.std.proofs.Common.{◌∷◌, [], ◌∙◌}
use Rattle.std.specs.Prelude.{codes}
use Rattle.json.specs.Token.{begin_object, end_object, key}
use Rattle.trace_log.specs.TraceForms.{one}
use Rattle.trace_log.specs.TraceData.{text_data, value_data, term_data}
use Rattle.trace_log.specs.TraceTokens.{data_tokens}
use Rattle.trace_log.proofs.TokenLaws.{seven}
use Rattle.trace_log.proofs.trace_writing.write_demand.Goals as goal

pub returns-clause-tokens : goal.returns-clause-tokens
returns-clause-tokens c =
    let x = c.args.demand.now in
    let begun = c.in_ok-begin_object.ensures in
    let item = c.in_ok-put_text.ensures.tokens in
    let place_key = c.in_ok-key.ensures in
    let place = c.in_ok-write_place.ensures.tokens in
    let value_key = c.in_ok-key-2.ensures in
    let value = c.in_ok-write_value.ensures.tokens in
    let ended = c.in_ok-end_object.ensures in (
      ended.room.0 ∙ value.0 ∙ value_key.room.0 ∙ place.0 ∙ place_key.room.0 ∙ item.0 ∙ begun.room.0,
      seven c.args.writer.now.tokens c.begin_object.new.self.tokens c.put_text.new.writer.tokens c.key.new.self.tokens c.write_place.new.writer.tokens
          c.key-2.new.self.tokens c.write_value.new.writer.tokens c.end_object.new.self.tokens (begin_object ∷ [])
          (key (codes "item") ∷ data_tokens (text_data x.item)) (key (codes "place") ∷ []) (data_tokens (one (codes "t") (term_data x.place)))
          (key (codes "value") ∷ []) (data_tokens (value_data x.value)) (end_object ∷ []) begun.ok item.1 place_key.ok place.1 value_key.ok value.1
          ended.ok,
    )

pub returns-clause-held : goal.returns-clause-held
returns-clause-held c = record {
  item = c.in_ok-put_text.ensures.held;
  place = c.in_ok-write_place.ensures.held;
  value = c.in_ok-write_value.ensures.held;
}
