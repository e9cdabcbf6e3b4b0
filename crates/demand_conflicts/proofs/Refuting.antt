-- Wrong answers that the definitions exclude, each on a small case: what the definition gives, and that it isn't what the wrong
-- code would answer. A contract says that the code's result is what the definition gives, so it refuses that code.
use Rattle.std.specs.Prelude.{◌≡◌, ℕ, List, [], ◌∷◌, codes}
use Rattle.std.proofs.Common.{refl, ap, arith}
use Rattle.qvtr_semantics.specs.SmallModels.{rdb}
use Rattle.repair_semantics.specs.Claims.{Spot, Said, Held, Claim}
use Rattle.repair_semantics.specs.Conflicts.{AreAtPeace}
use Rattle.repair_semantics.specs.SmallRepairs.{first_name, second_name, two_names, name_claim}
use Rattle.repair_semantics.proofs.ConflictRows.{two_names_clash}
use Rattle.term_table.specs.declared.numbered.NumberedValue.TheVariants.{Term}
use Rattle.demand_conflicts.specs.declared.demand.NumberedDemand.{NumberedDemand}
use Rattle.demand_conflicts.specs.NumberedClaims.{single_claims}

-- ---- a schema that gets the names `a` and `x`

-- the later demand wins, and nothing is told
pub later_demand_wins : AreAtPeace rdb two_names → ⊥
later_demand_wins peaceful = peaceful first_name second_name (name_claim (codes "a")) (name_claim (codes "x")) two_names_clash

-- ---- the table 1 for the schema 0

abbrev table_demanded : NumberedDemand
table_demanded = record { entry = 0; owner = 0; prop = record { 0 = 1 }; value = Term 1 }

-- that the slot of an object at `schema` holds another object
abbrev has_schema : ℕ → ℕ → Claim ℕ
has_schema o schema = record { spot = Spot.slot o 2; said = Said.element (Held.object schema) }

abbrev stands_within : Claim ℕ
stands_within = record { spot = Spot.container 1; said = Said.within 0 1 }

pub other_end_and_container : single_claims rdb table_demanded ≡ has_schema 1 0 ∷ stands_within ∷ []
other_end_and_container = refl

-- nothing is claimed of the container
pub containers_are_passed_over : single_claims rdb table_demanded ≡ has_schema 1 0 ∷ [] → ⊥
containers_are_passed_over e = cc

abbrev object_at : Spot ℕ → ℕ
object_at (Spot.slot o p) = o
object_at (Spot.container o) = o

abbrev first_object : List (Claim ℕ) → ℕ
first_object [] = 0
first_object (c ∷ cs) = object_at c.spot

-- the owner's own slot in place of that at the other end
pub other_end_is_passed_over : single_claims rdb table_demanded ≡ has_schema 0 1 ∷ stands_within ∷ [] → ⊥
other_end_is_passed_over e = let apart : 1 ≡ 0 = ap first_object e in omega (arith, apart)
