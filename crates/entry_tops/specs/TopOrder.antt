-- The top relations of the direction in the order of their strata: a relation stands behind those that its when clause calls (QVT 1.3,
-- sections 7.2 and 7.10.2).
use Rattle.std.specs.Prelude.{◌≡◌, ◌≢◌, ◌≤◌, ◌+◌, ℕ, Bool, ◌&&◌, List, [], ◌∷◌, ◌++◌, map, Some, slice_get, Contains, AllPairs, if◌then◌else◌}
use Rattle.qv_syntax.specs.declared.program.Program.{Program}
use Rattle.qv_syntax.specs.declared.program.Rel.{Rel}
use Rattle.qvtr_semantics.specs.Satisfaction.{IsTop}
use Rattle.entry_tops.specs.declared.ranked.Ranked.{Ranked}

-- the relation is top and of the direction
abbrev pub is_top : Rel → Bool
is_top rel = rel.top && rel.in_direction

-- the relation by its number, if it is top
abbrev pub ranked_if_top : ℕ → Rel → List Ranked
ranked_if_top number rel = if is_top rel then record { stratum = rel.stratum; number = number } ∷ [] else []

-- the top ones of these relations, the first of which has this number
abbrev pub ranked_from : ℕ → List Rel → List Ranked
ranked_from number [] = []
ranked_from number (rel ∷ rels) = ranked_if_top number rel ++ ranked_from (number + 1) rels

-- the numbers of relations
abbrev pub numbers_of : List Ranked → List ℕ
numbers_of rs = map (λ r. r.number) rs

-- the first of two relations has no greater stratum than the second
abbrev pub IsNoHigher : Program → ℕ → ℕ → Type 0
IsNoHigher program m n = (a b : Rel) → slice_get program.rels m ≡ Some a → slice_get program.rels n ≡ Some b → a.stratum ≤ b.stratum

-- the numbers of all top relations, each once, in the order of their strata
pub record AreTopsInOrder (program : Program) (order : List ℕ) : Type 0 where
  pub only : (number : ℕ) → Contains order number → (rel : Rel) × IsTop program number rel
  pub all : (number : ℕ) (rel : Rel) → IsTop program number rel → Contains order number
  pub once : AllPairs (λ m n. m ≢ n) order
  pub ordered : AllPairs (IsNoHigher program) order
