-- The partners of objects that speak, put into the order in which they are written (UML 2.5.1, 7.5: ordered multiplicity elements).
use Rattle.std.specs.Prelude.{◌≡◌, ℕ, zero, suc, ◌<◌, Bool, true, false, not, List, [], ◌∷◌, length, drop, IsPermutation, AllPairs, if◌then◌else◌}
use Rattle.mof_metamodel.specs.Metamodels.{united}
use Rattle.object_tables.specs.Models.{ModelData, partners_at, with_order, IsReferenceOf}
use Rattle.model_assembly.specs.declared.assembly.naming.Naming.{Naming}
use Rattle.model_assembly.specs.AssemblyNamings.{at}
use Rattle.model_assembly.specs.Source.{is_at}

-- what is named at a reference with which a list begins
abbrev pub targets_run : ℕ → ℕ → List Naming → List ℕ
targets_run o p [] = []
targets_run o p (n ∷ ns) = if is_at o p n.object n.property then n.target ∷ targets_run o p ns else []

-- all that is named at a reference
abbrev pub targets : ℕ → ℕ → List Naming → List ℕ
targets o p [] = []
targets o p (n ∷ ns) = if is_at o p n.object n.property then n.target ∷ targets o p ns else targets o p ns

-- the same, each once and at its first place
abbrev pub distinct_targets : List Naming → ℕ → ℕ → List ℕ
distinct_targets xs o p = united [] (targets o p xs)

-- nothing is named at a reference
abbrev pub IsUnnamed : List Naming → ℕ → ℕ → Type 0
IsUnnamed xs o p = (i : ℕ) → i < length xs → is_at o p (at xs i).object (at xs i).property ≡ false

-- the partners of objects that name none stand by number
abbrev pub StandByNumber : List Naming → ModelData → Type 0
StandByNumber xs m = (o p : ℕ) → IsUnnamed xs o p → AllPairs (λ a b. a < b) (partners_at m o p)

-- what is named together at a place of a list, each once
abbrev pub named_from : List Naming → ℕ → List ℕ
named_from xs i = united [] (targets_run (at xs i).object (at xs i).property (drop i xs))

-- the naming at a place is the first of those at its reference
abbrev pub is_first : List Naming → ℕ → Bool
is_first xs zero = true
is_first xs (suc i) = not (is_at (at xs i).object (at xs i).property (at xs (suc i)).object (at xs (suc i)).property)

-- a model with the orders of the first places of a list, where the namings of one reference stand together
abbrev pub ordered_at : ModelData → List Naming → ℕ → ModelData
ordered_at m xs i = if is_first xs i then with_order m (at xs i).object (at xs i).property (named_from xs i) else m

abbrev pub ordered : ModelData → List Naming → ℕ → ModelData
ordered m xs zero = m
ordered m xs (suc i) = ordered_at (ordered m xs i) xs i

-- what is named together is what the partners are, in another order
pub record MayBeOrdered (m : ModelData) (xs : List Naming) (i : ℕ) : Type 0 where
  pub reference : IsReferenceOf m (at xs i).object (at xs i).property
  pub partners : IsPermutation (named_from xs i) (partners_at m (at xs i).object (at xs i).property)
