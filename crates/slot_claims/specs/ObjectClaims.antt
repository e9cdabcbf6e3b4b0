-- Claims of slots and containers of objects, and facts that make them, as the code has them (MOF 2.5.1, Reflection; UML 2.5.1, 9.5.3).
use Rattle.std.specs.Prelude.{ℕ, Bool, not, ◌&&◌, List, Option, None, Some}
use Rattle.std.specs.List.{list_any, filter_map}
use Rattle.mof_metamodel.specs.declared.desc.MetaDesc.{MetaDesc}
use Rattle.repair_semantics.specs.Claims.{Held, Fact, Spot, Said, Claim, same_spot, same_said, are_against}
use Rattle.repair_semantics.specs.Images.{same_number}
use Rattle.slot_claims.specs.declared.claim.ObjectSpot.{ObjectSpot}
use Rattle.slot_claims.specs.declared.claim.ObjectSpot.TheVariants as spots
use Rattle.slot_claims.specs.declared.claim.ObjectSaid.{ObjectSaid}
use Rattle.slot_claims.specs.declared.claim.ObjectSaid.TheVariants as saids
use Rattle.slot_claims.specs.declared.claim.ObjectClaim.{ObjectClaim}
use Rattle.slot_claims.specs.declared.claim.ObjectFact.{ObjectFact}
use Rattle.slot_claims.specs.HeldValues.{element_by}

-- the place
abbrev pub spot_by : ObjectSpot → Spot ℕ
spot_by (spots.Slot o p) = Spot.slot o.0 p.0
spot_by (spots.Container o) = Spot.container o.0

-- what stands there
abbrev pub said_by : ObjectSaid → Said ℕ
said_by (saids.Element e) = Said.element (element_by e)
said_by (saids.Within o p) = Said.within o.0 p.0

-- that it stands there
abbrev pub claim_by : ObjectClaim → Claim ℕ
claim_by c = record { spot = spot_by c.spot; said = said_by c.said }

-- what an object has
abbrev pub fact_by : ObjectFact → Fact ℕ
fact_by f = record { owner = f.owner.0; prop = f.prop.0; holds = element_by f.holds }

-- the claim is of the place
abbrev pub is_of_spot : Spot ℕ → Claim ℕ → Bool
is_of_spot spot c = same_spot same_number spot c.spot

-- the claim is of the place, and says something else
abbrev pub says_otherwise : Spot ℕ → Said ℕ → Claim ℕ → Bool
says_otherwise spot said c = is_of_spot spot c && not (same_said same_number said c.said)

-- that the slot of an object at a property has an element
abbrev pub slot_claim : ℕ → ℕ → Held ℕ → Claim ℕ
slot_claim o p h = record { spot = Spot.slot o p; said = Said.element h }

-- one of the claims is against one of the others
abbrev pub is_one_against : MetaDesc → List (Claim ℕ) → List (Claim ℕ) → Bool
is_one_against meta others claims = list_any (λ c. list_any (are_against meta same_number c) others) claims

-- the element that a claim puts into a slot
abbrev pub element_in : Said ℕ → Option (Held ℕ)
element_in (Said.element h) = Some h
element_in (Said.within x p) = None

-- the elements that claims of one slot put into it
abbrev pub elements_in : List (Claim ℕ) → List (Held ℕ)
elements_in claims = filter_map (λ c. element_in c.said) claims
