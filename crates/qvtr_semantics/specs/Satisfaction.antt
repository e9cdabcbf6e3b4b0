-- When the relations are satisfied, and which binding fails first (QVT 1.3, sections 7.2.1, 7.3 and 7.10.1).
use Rattle.std.specs.Prelude.{◌≡◌, ◌<◌, ◌⊎◌, ℕ, Bool, true, false, List, [], ◌∷◌, Option, Some, slice_get, IsTrue}
use Rattle.object_tables.specs.Models.{ModelData}
use Rattle.qv_syntax.specs.declared.program.Program.{Program}
use Rattle.qv_syntax.specs.declared.program.Rel.{Rel}
use Rattle.qvtr_semantics.specs.declared.datum.Datum.{Datum}
use Rattle.qvtr_semantics.specs.Data.{is_before}
use Rattle.qvtr_semantics.specs.Templates.{Values, value_at}
use Rattle.qvtr_semantics.specs.Calls.{SourceMatches, TargetHolds, Match, Holds, free}

-- the number is that of a top relation of the direction
pub record IsTop (program : Program) (number : ℕ) (rel : Rel) : Type 0 where
  pub is : slice_get program.rels number ≡ Some rel
  pub top : rel.top ≡ true
  pub in_direction : rel.in_direction ≡ true

-- a binding of a top relation meets its source, its calls match, and it has no partner
pub record Failing (program : Program) (models : List ModelData) (number : ℕ) (b : Values) : Type 0 where
  pub rel : Rel
  pub top : IsTop program number rel
  pub source : SourceMatches (Match program models) program models rel (free rel) b
  pub alone : (g : Values) → ¬ TargetHolds (Holds program models) program models rel b g

-- no binding is failing
abbrev pub Satisfied : Program → List ModelData → Type 0
Satisfied program models = (number : ℕ) (b : Values) → ¬ Failing program models number b

-- The order of bindings: by the values of the universal variables in their order.
abbrev pub comes_before : Option Datum → Option Datum → Bool
comes_before (Some d) (Some e) = is_before d e
comes_before d e = false

abbrev pub IsLess : List ℕ → Values → Values → Type 0
IsLess [] a b = ⊥
IsLess (v ∷ vs) a b = IsTrue (comes_before (value_at a v) (value_at b v)) ⊎ ((value_at a v ≡ value_at b v) × IsLess vs a b)

-- the least failing binding: of the first failing relation of the text the least one
pub record LeastFailing (program : Program) (models : List ModelData) (number : ℕ) (b : Values) : Type 0 where
  pub failing : Failing program models number b
  pub first : (n : ℕ) (c : Values) → n < number → ¬ Failing program models n c
  pub least : (c : Values) → Failing program models number c → ¬ IsLess (failing.rel.universal) c b
