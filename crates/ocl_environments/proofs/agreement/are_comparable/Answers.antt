use Rattle.std.proofs.Common.{◌≡◌, ◌∙◌, Bool, true, false, ◌||◌, sym, ap}
use Rattle.std.proofs.lemmas.Bool.{false≢true}
use Rattle.ocl_environments.specs.Agreement.{is_null, are_related, comparable_elements, collection_parts}
use Rattle.ocl_environments.proofs.agreement.are_comparable.Goals.{then-is_null, else-is_null, then-is_null-2, else-is_null-2}
use Rattle.ocl_environments.proofs.agreement.are_comparable.Goals as goal

-- what is known where the first tests are true
some_true : (x y r e v : Bool) → v ≡ ((x || y) || r) → v ≡ true → v ≡ (x || y || r || e)
some_true true y r e v is holds = holds
some_true false true r e v is holds = holds
some_true false false true e v is holds = holds
some_true false false false e v is holds = absurd (false≢true (sym is ∙ holds))

pub returns-then-are_related : goal.returns-then-are_related
returns-then-are_related c =
    let a = is_null c.args.a.now in
    let b = is_null c.args.b.now in
    let one : c.if-is_null.value ≡ (a || b) = elim c.if-is_null.branch [
      | then-is_null w ↦ w.value-is ∙ w.if-is_null.true ∙ ap (λ (x : Bool). x || b) (sym w.if-is_null.true ∙ c.is_null.ensures)
      | else-is_null w ↦ w.value-is ∙ w.is_null-else-is_null.ensures ∙ ap (λ (x : Bool). x || b) (sym w.if-is_null.false ∙ c.is_null.ensures)
    ] in
    let both : c.if-is_null-2.value ≡ ((a || b) || are_related c.args.metas.now c.args.a.now c.args.b.now) = elim c.if-is_null-2.branch [
      | then-is_null-2 w ↦ w.value-is ∙ w.if-is_null-2.true
          ∙ ap (λ (x : Bool). x || are_related c.args.metas.now c.args.a.now c.args.b.now) (sym w.if-is_null-2.true ∙ one)
      | else-is_null-2 w ↦ w.value-is ∙ w.are_related.ensures ∙ ap (λ (x : Bool). x || are_related c.args.metas.now c.args.a.now c.args.b.now) (sym w.if-is_null-2.false ∙ one)
    ] in
    some_true a b (are_related c.args.metas.now c.args.a.now c.args.b.now) (comparable_elements c.args.metas.now (collection_parts c.args.a.now) (collection_parts c.args.b.now))
    c.if-is_null-2.value both c.if-are_related.true
