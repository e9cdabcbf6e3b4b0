-- The claims of a place among claims that stand in their order.
use Rattle.std.specs.Prelude.{◌≡◌, ◌≤◌, ℕ, Bool, true, false, List, filter, length, take, drop}
use Rattle.std.specs.List.Sorted.{IsStrictlySortedBy, IsPartitionedBy, IsPartitionPoint}
use Rattle.std.specs.Ordering.{ordering_reverse, is_eq, is_lt, is_le}
use Rattle.std.specs.declared.cmp.Ordering.{Ordering}
use Rattle.std.specs.declared.cmp.Ordering.TheVariants.{Less, Equal, Greater}
use Rattle.std.proofs.Common.{sym, ap, ◌∙◌}
use Rattle.std.proofs.lemmas.List.Elements.{filter_agree}
use Rattle.std.proofs.lemmas.Map.Views.{exact_unsigned_eq}
use Rattle.key_index.proofs.RangeLaws as ranges
use Rattle.demand_conflicts.proofs.SaidLaws.{number_itself, spot_is, spot_itself}
use Rattle.repair_semantics.specs.Claims.{Spot, same_spot}
use Rattle.repair_semantics.specs.Images.{same_number}
use Rattle.slot_claims.specs.declared.claim.ObjectClaim.{ObjectClaim}
use Rattle.slot_claims.specs.ObjectClaims.{spot_by, said_by, claim_by, is_of_spot}
use Rattle.slot_claims.specs.ClaimOrder.{spot_order, said_order, object_claim_order}
use Rattle.slot_claims.proofs.ListLaws.{same_by_order}
use Rattle.slot_claims.proofs.OrderLaws.{spots_total, spot_exact}

-- places are one where neither comes first
spot_ties : (s t : Spot ℕ) → same_spot same_number s t ≡ is_eq (spot_order s t)
spot_ties =
    same_by_order (same_spot same_number) spot_order spots_total spot_exact (spot_is same_number exact_unsigned_eq number_itself)
    (spot_itself same_number exact_unsigned_eq number_itself)

one_spot : (s t : Spot ℕ) → same_spot same_number s t ≡ same_spot same_number t s
one_spot s t = spot_ties s t ∙ by (spot_order t s) (spot_order s t) (spots_total.antisymm s t) ∙ sym (spot_ties t s)
  where
    by : (o q : Ordering) → q ≡ ordering_reverse o → is_eq q ≡ is_eq o
    by Less q is = ap is_eq is
    by Equal q is = ap is_eq is
    by Greater q is = ap is_eq is

-- claims are in the order of their places, and then of what they say
abbrev spot_of : ObjectClaim → Spot ℕ
spot_of c = spot_by c.spot

abbrev what_is_said : ObjectClaim → ObjectClaim → Ordering
what_is_said c d = said_order (said_by c.said) (said_by d.said)

module _ (s : Spot ℕ) where
  abbrev pub is_before : ObjectClaim → Bool
  is_before c = is_lt (spot_order (spot_of c) s)

  abbrev pub is_not_behind : ObjectClaim → Bool
  is_not_behind c = is_le (spot_order (spot_of c) s)

  of_spot : (c : ObjectClaim) → is_eq (spot_order (spot_of c) s) ≡ is_of_spot s (claim_by c)
  of_spot c = sym (spot_ties (spot_of c) s) ∙ one_spot (spot_of c) s

  module _ (xs : List ObjectClaim) (up : IsStrictlySortedBy object_claim_order xs) where
    pub first_parted : IsPartitionedBy is_before xs
    first_parted = ranges.first_parted spot_of spot_order spots_total what_is_said s xs up

    -- the claims of the place, from what is behind those before it
    pub rest_there : (first : ℕ) → first ≤ length xs → IsPartitionPoint (λ c. is_before c ≡ true) (λ c. is_before c ≡ false) xs first
        → (rest : List ObjectClaim) → rest ≡ drop first xs → (count : ℕ) → count ≤ length rest
        → (IsPartitionedBy is_not_behind rest → IsPartitionPoint (λ c. is_not_behind c ≡ true) (λ c. is_not_behind c ≡ false) rest count)
        → take count rest ≡ filter (λ c. is_of_spot s (claim_by c)) xs
    rest_there first within at rest is count few point =
        ranges.found spot_of spot_order spots_total what_is_said s xs up first within at rest is count few point
        ∙ filter_agree (λ c. is_eq (spot_order (spot_of c) s)) (λ c. is_of_spot s (claim_by c)) of_spot xs
