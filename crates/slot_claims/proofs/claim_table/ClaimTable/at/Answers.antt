use Rattle.std.specs.Prelude.{map, filter}
use Rattle.std.specs.List.Sorted.{IsStrictlySortedBy}
use Rattle.std.proofs.Common.{refl, ap, subst, ◌∙◌}
use Rattle.object_tables.proofs.ListLemmas.{filter-map_all}
use Rattle.slot_claims.specs.ObjectClaims.{spot_by, claim_by, is_of_spot}
use Rattle.slot_claims.specs.ClaimOrder.{claim_order}
use Rattle.slot_claims.proofs.OnceLaws.{mapped_sorted}
use Rattle.slot_claims.proofs.OrderLaws.{claims_total, claim_exact}
use Rattle.slot_claims.proofs.claim_table.ClaimTable.at.Goals as goal

pub returns-clause-there : goal.returns-clause-there
returns-clause-there c =
    let s = spot_by c.args.spot in
    let claims = c.self.inside.claims.items in
    ap (map claim_by) c.claims_at.ensures ∙ ap (λ cs. map claim_by (filter (λ c. is_of_spot s (claim_by c)) cs)) c.as_slice.ensures.value
    ∙ filter-map_all claim_by (λ c. is_of_spot s (claim_by c)) (is_of_spot s) claims (λ x within. refl) ∙ ap (filter (is_of_spot s)) c.self.view_is

pub returns-clause-sorted : goal.returns-clause-sorted
returns-clause-sorted c =
    subst (IsStrictlySortedBy claim_order) c.self.view_is
    (mapped_sorted claim_order claims_total claim_exact claim_by c.self.inside.claims.items c.self.invariant)
