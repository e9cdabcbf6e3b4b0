use Rattle.std.proofs.Common.{◌≡◌, ◌++◌, ◌∷◌, [], ℕ, List, map, sym, ap, ◌∙◌, arith}
use Rattle.std.specs.List.{range_with_len}
use Rattle.std.proofs.lemmas.List.FromFn.{map-range_with_len_more}
use Rattle.entry_making.specs.Items.{shown_item}
use Rattle.entry_making.specs.KeyedVariables.{key_row, keyed_at}
use Rattle.entry_making.proofs.keyed.key_rows.Goals as goal

pub loop-v-preserved : goal.loop-v-preserved
loop-v-preserved c =
    let f : ℕ → List ℕ = λ v. key_row (keyed_at c.args.task.now.program.now c.args.task.now.meta.now c.args.task.now.rel.now (map shown_item c.args.task.now.items.now) v) in
    c.in_ok-push.ensures.ok
    ∙ ap (λ (rs : List (List ℕ)). rs ++ c.in_ok-key_row.field-0 ∷ []) c.loop-v.invariant
    ∙ ap (λ (row : List ℕ). map f (range_with_len 0 c.loop-v.v) ++ row ∷ []) (c.in_ok-key_row.ensures ∙ ap key_row c.in_ok-keyed_at.ensures)
    ∙ sym (map-range_with_len_more f 0 c.loop-v.v c.loop-v.v (omega arith))
