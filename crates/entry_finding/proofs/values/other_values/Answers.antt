use Rattle.std.proofs.Common.{List, [], ◌∷◌, ◌++◌, map, sym, ap, ◌∙◌, arith}
use Rattle.std.specs.Prelude.{Option}
use Rattle.std.specs.List.{range_with_len}
use Rattle.std.proofs.lemmas.List.FromFn.{map-range_with_len_more}
use Rattle.term_table.specs.declared.numbered.NumberedValue.{NumberedValue}
use Rattle.entry_finding.specs.Made.{other_number}
use Rattle.entry_finding.proofs.values.other_values.Goals as goal

pub loop-variable-preserved : goal.loop-variable-preserved
loop-variable-preserved c =
    let f = other_number c.args.own.now c.args.all.now in
    c.in_ok-push.ensures.ok
    ∙ ap (λ (xs : List (Option NumberedValue)). xs ++ c.in_ok-other_value.field-0 ∷ []) c.loop-variable.invariant
    ∙ ap (λ (y : Option NumberedValue). map f (range_with_len 0 c.loop-variable.variable) ++ y ∷ []) c.in_ok-other_value.ensures
    ∙ sym (map-range_with_len_more f 0 c.loop-variable.variable c.loop-variable.variable (omega arith))
