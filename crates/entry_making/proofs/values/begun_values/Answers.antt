use Rattle.std.proofs.Common.{◌++◌, ◌∷◌, [], List, ◌<◌, length, map, sym, ap, ◌∙◌, arith}
use Rattle.std.specs.Prelude.{Option}
use Rattle.std.specs.Option.{option_or, option_and_then}
use Rattle.std.specs.List.{range_with_len}
use Rattle.std.proofs.lemmas.List.FromFn.{map-range_with_len_more}
use Rattle.term_table.specs.declared.numbered.NumberedValue.{NumberedValue}
use Rattle.entry_making.specs.Numbered.{given_number, number_or_datum}
use Rattle.entry_making.proofs.DecodedLaws.{begun_at}
use Rattle.entry_making.proofs.values.begun_values.Goals as goal

pub loop-v-preserved : goal.loop-v-preserved
loop-v-preserved c =
    let b = c.args.b.now in
    let scope = c.args.scope.now in
    let below : c.loop-v.v < length b = omega (arith, c.loop-v-test.true) in
    c.in_ok-push.ensures.items
    ∙ ap (λ (xs : List (Option NumberedValue)). xs ++ c.in_ok-value_or_datum.field-0 ∷ []) c.loop-v.invariant
    ∙ ap (λ (y : Option NumberedValue). map (number_or_datum b scope) (range_with_len 0 c.loop-v.v) ++ y ∷ [])
    (c.in_ok-value_or_datum.ensures ∙ ap (λ o. option_or c.index-b-v.result (option_and_then given_number o)) c.get.ensures
    ∙ begun_at b scope c.loop-v.v c.index-b-v.result below c.index-b-v.is)
    ∙ sym (map-range_with_len_more (number_or_datum b scope) 0 c.loop-v.v c.loop-v.v (omega arith))
