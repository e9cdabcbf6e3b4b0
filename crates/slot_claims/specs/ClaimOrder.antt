-- An order of claims by objects' numbers, in which they are looked up: those of one place stand side by side, and in a slot its elements
-- stand in their order (the order of places is this engine's own).
use Rattle.std.specs.Prelude.{ℕ}
use Rattle.std.specs.Ordering.{nat_cmp, ordering_then}
use Rattle.std.specs.declared.cmp.Ordering.{Ordering}
use Rattle.std.specs.declared.cmp.Ordering.TheVariants.{Less, Greater}
use Rattle.repair_semantics.specs.Claims.{Spot, Said, Claim}
use Rattle.repair_semantics.specs.Candidates.{held_order}
use Rattle.slot_claims.specs.declared.held_value.Element.{Element}
use Rattle.slot_claims.specs.declared.claim.ObjectClaim.{ObjectClaim}
use Rattle.slot_claims.specs.HeldValues.{element_by}
use Rattle.slot_claims.specs.ObjectClaims.{claim_by}

-- slots come before containers, and go by object and then by property
abbrev pub spot_order : Spot ℕ → Spot ℕ → Ordering
spot_order (Spot.slot x p) (Spot.slot y q) = ordering_then (nat_cmp x y) (nat_cmp p q)
spot_order (Spot.slot x p) (Spot.container y) = Less
spot_order (Spot.container x) (Spot.slot y q) = Greater
spot_order (Spot.container x) (Spot.container y) = nat_cmp x y

-- elements of slots come before containers, which go by object and then by property
abbrev pub said_order : Said ℕ → Said ℕ → Ordering
said_order (Said.element h) (Said.element i) = held_order h i
said_order (Said.element h) (Said.within y q) = Less
said_order (Said.within x p) (Said.element i) = Greater
said_order (Said.within x p) (Said.within y q) = ordering_then (nat_cmp x y) (nat_cmp p q)

-- by the place, and then by what is said of it
abbrev pub claim_order : Claim ℕ → Claim ℕ → Ordering
claim_order c d = ordering_then (spot_order c.spot d.spot) (said_order c.said d.said)

-- how elements stand, as the code has them
abbrev pub element_order : Element → Element → Ordering
element_order e f = held_order (element_by e) (element_by f)

-- how claims stand, as the code has them
abbrev pub object_claim_order : ObjectClaim → ObjectClaim → Ordering
object_claim_order c d = claim_order (claim_by c) (claim_by d)
