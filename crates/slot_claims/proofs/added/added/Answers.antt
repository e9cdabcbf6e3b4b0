use Rattle.std.specs.Prelude.{map}
use Rattle.std.proofs.Common.{◌∙◌, ap}
use Rattle.std.proofs.lemmas.List.Sorted.{IsPermutation-map}
use Rattle.std.proofs.lemmas.Result.{IfOk-weaker}
use Rattle.repair_semantics.specs.Candidates.{others_than}
use Rattle.slot_claims.specs.HeldValues.{element_by}
use Rattle.slot_claims.specs.ObjectClaims.{claim_by, elements_in}
use Rattle.slot_claims.proofs.ElementLaws.{others_alike}
use Rattle.slot_claims.proofs.added.added.Goals as goal

pub returns : goal.returns
returns c =
    let elements = elements_in (map claim_by c.args.claims.now) in
    let lent = c.in_ok-all_lent.field-0.items in
    let sorted = c.in_order-sorted.result.items in
    IfOk-weaker c.others.result _ _
    (λ found is.
    is ∙ ap (λ es. others_than (map element_by es) elements) c.as_slice.ensures.value
    ∙ others_alike (map element_by lent) (map element_by sorted) elements (IsPermutation-map element_by lent sorted c.in_order-sorted.ensures.same)
    ∙ ap (λ hs. others_than hs elements) c.in_ok-all_lent.ensures)
    c.others.ensures
