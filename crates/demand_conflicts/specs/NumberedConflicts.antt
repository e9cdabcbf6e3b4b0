-- Conflicts between demands by number: as those between demands, with numbers in place of terms.
use Rattle.std.specs.Prelude.{◌≡◌, ◌<◌, ℕ, suc, nat_eq, false, List, [], ◌∷◌, ◌++◌, Some, slice_get, Contains}
use Rattle.mof_metamodel.specs.declared.desc.MetaDesc.{MetaDesc}
use Rattle.repair_semantics.specs.Claims.{Spot, Claim, same_said}
use Rattle.demand_conflicts.specs.declared.demand.NumberedDemand.{NumberedDemand}
use Rattle.demand_conflicts.specs.declared.conflict.FoundConflict.{FoundConflict}
use Rattle.demand_conflicts.specs.NumberedClaims.{single_claims}
use Rattle.demand_conflicts.specs.Heard.{HeardClaim, heard_by}

-- the claims of demands on single places, where the first demand has this place in the list
abbrev pub heard_from : MetaDesc → ℕ → List NumberedDemand → List HeardClaim
heard_from meta i [] = []
heard_from meta i (d ∷ ds) = heard_by i (single_claims meta d) ++ heard_from meta (suc i) ds

-- the demand at the place makes the claim, and at most one thing stands at its place
pub record HasClaim (meta : MetaDesc) (ds : List NumberedDemand) (i : ℕ) (c : Claim ℕ) : Type 0 where
  pub demand : NumberedDemand
  pub demand_is : slice_get ds i ≡ Some demand
  pub of_demand : Contains (single_claims meta demand) c

-- claims of one single place say the same
abbrev pub AreAgreed : MetaDesc → List NumberedDemand → Type 0
AreAgreed meta ds = (i j : ℕ) (c d : Claim ℕ) → HasClaim meta ds i c → HasClaim meta ds j d → c.spot ≡ d.spot → c.said ≡ d.said

-- the place that is told: of a container the part, with the property of the first demand
abbrev pub IsNumberedPlace : Spot ℕ → NumberedDemand → FoundConflict → Type 0
IsNumberedPlace (Spot.slot x p) first found = (found.owner ≡ x) × (found.prop.0 ≡ p)
IsNumberedPlace (Spot.container x) first found = (found.owner ≡ x) × (found.prop ≡ first.prop)

-- two demands with claims of one single place that differ
pub record IsNumberedConflict (meta : MetaDesc) (ds : List NumberedDemand) (found : FoundConflict) : Type 0 where
  pub before : found.first < found.second
  pub c : Claim ℕ
  pub d : Claim ℕ
  pub of_first : HasClaim meta ds found.first c
  pub of_second : HasClaim meta ds found.second d
  pub spot : c.spot ≡ d.spot
  pub differ : same_said nat_eq c.said d.said ≡ false
  pub place : IsNumberedPlace c.spot of_first.demand found
