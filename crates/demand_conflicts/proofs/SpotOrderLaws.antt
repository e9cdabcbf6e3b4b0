-- The order of places for look-ups: places that tie are one.
use Rattle.std.specs.Prelude.{ℕ}
use Rattle.std.specs.Ordering.{nat_cmp}
use Rattle.std.proofs.Common.{ap}
use Rattle.std.proofs.lemmas.Map.Lookups.{CmpEqualImpliesEq, exact_unsigned, exact_pairs}
use Rattle.demand_conflicts.specs.contracts.claims.NumberedSpotOrd.TheImpl.{ghosts}
use Rattle.demand_conflicts.specs.declared.claims.NumberedSpot.TheVariants as spots

pub one_spot : CmpEqualImpliesEq ghosts.cmp
one_spot (spots.Slot x p) (spots.Slot y q) h = ap (λ (z : ℕ × ℕ). spots.Slot z.0 z.1) (exact_pairs nat_cmp nat_cmp exact_unsigned exact_unsigned (x, p) (y, q) h)
one_spot (spots.Slot x p) (spots.Container y) h = absurd (cc)
one_spot (spots.Container x) (spots.Slot y q) h = absurd (cc)
one_spot (spots.Container x) (spots.Container y) h = ap spots.Container (exact_unsigned x y h)
