-- When what is found is the first fault of those that stand at places.
use Rattle.std.specs.Prelude.{◌≡◌, ◌⊎◌, ℕ, ◌<◌, ◌≤◌, Option, None, Some}
use Rattle.model_assembly.specs.declared.fault.ModelFault.{ModelFault}
use Rattle.model_assembly.specs.declared.fault.ModelFault.TheVariants as faults
use Rattle.model_assembly.specs.Faults.{IsDuplicate}
use Rattle.model_assembly.specs.FirstFault.{rank}
use Rattle.xmi_profile.specs.Judging.{Found}
use Rattle.model_assembly.specs.Source.{Source}

-- faults that stand at places
abbrev pub Stands : Type 1
Stands = ModelFault → ℕ → Type 0

-- one place and kind comes before another, or is it
abbrev pub Before : ℕ → ℕ → ℕ → ℕ → Type 0
Before n r m q = (n < m) ⊎ ((n ≡ m) × (r ≤ q))

-- the fault stands, and comes before all that stand
pub record IsFound (P : Stands) (f : Found) : Type 0 where
  pub stands : P f.fault f.place
  pub first : (g : ModelFault) (place : ℕ) → P g place → Before f.place (rank f.fault) place (rank g)

-- nothing is found where none stands
abbrev pub FirstIn : Stands → Option Found → Type 0
FirstIn P None = (g : ModelFault) (place : ℕ) → ¬ P g place
FirstIn P (Some f) = IsFound P f

-- repeated identifiers
abbrev pub Duplicates : Source → Stands
Duplicates s (faults.DuplicateId id) place = IsDuplicate s place id
Duplicates s (faults.UnknownClass name) place = ⊥
Duplicates s (faults.UnknownProperty id prop) place = ⊥
Duplicates s (faults.WrongValue id prop) place = ⊥
Duplicates s (faults.Dangling id prop reference) place = ⊥
Duplicates s (faults.TwoContainers id) place = ⊥
Duplicates s (faults.Mismatch id prop other other_prop) place = ⊥
Duplicates s (faults.Invalid breach id) place = ⊥
Duplicates s (faults.Limit kind) place = ⊥
