-- Claims of demands by number: those of facts about numbers in place of terms.
use Rattle.std.specs.Prelude.{ℕ, Bool, List, filter}
use Rattle.mof_metamodel.specs.declared.desc.MetaDesc.{MetaDesc}
use Rattle.term_table.specs.declared.numbered.NumberedValue.{NumberedValue}
use Rattle.term_table.specs.declared.numbered.NumberedValue.TheVariants as numbered
use Rattle.repair_semantics.specs.Claims.{Held, Fact, Spot, Said, Claim, claims_of, is_single_spot}
use Rattle.demand_conflicts.specs.declared.demand.NumberedDemand.{NumberedDemand}
use Rattle.demand_conflicts.specs.declared.claims.NumberedSpot.{NumberedSpot}
use Rattle.demand_conflicts.specs.declared.claims.NumberedSpot.TheVariants as spots
use Rattle.demand_conflicts.specs.declared.claims.NumberedSaid.{NumberedSaid}
use Rattle.demand_conflicts.specs.declared.claims.NumberedSaid.TheVariants as saids
use Rattle.demand_conflicts.specs.declared.claims.NumberedClaim.{NumberedClaim}

-- a value as what a slot holds
abbrev pub held_by : NumberedValue → Held ℕ
held_by (numbered.Val d) = Held.datum d
held_by (numbered.Term n) = Held.object n

-- what a demand says
abbrev pub fact_by : NumberedDemand → Fact ℕ
fact_by d = record { owner = d.owner; prop = d.prop.0; holds = held_by d.value }

-- the place
abbrev pub spot_by : NumberedSpot → Spot ℕ
spot_by (spots.Slot x p) = Spot.slot x p
spot_by (spots.Container x) = Spot.container x

-- what stands there
abbrev pub said_by : NumberedSaid → Said ℕ
said_by (saids.Datum d) = Said.element (Held.datum d.now)
said_by (saids.Object x) = Said.element (Held.object x)
said_by (saids.Within x p) = Said.within x p

-- that it stands there
abbrev pub claim_by : NumberedClaim → Claim ℕ
claim_by c = record { spot = spot_by c.spot; said = said_by c.said }

-- that it stands in a slot
abbrev pub slot_claim : ℕ → ℕ → NumberedSaid → Claim ℕ
slot_claim x p said = record { spot = Spot.slot x p; said = said_by said }

-- at most one thing stands at the place of the claim
abbrev pub is_single : MetaDesc → Claim ℕ → Bool
is_single meta c = is_single_spot meta c.spot

-- the claims of a demand on single places
abbrev pub single_claims : MetaDesc → NumberedDemand → List (Claim ℕ)
single_claims meta d = filter (is_single meta) (claims_of meta (fact_by d))
