use Rattle.std.proofs.Common.{◌≡◌, ◌<◌, ℕ, length}
use Rattle.std.specs.Prelude.{slice_index_or}
use Rattle.mof_metamodel.specs.Metamodels.{enum_at}
use Rattle.mof_metamodel.specs.Tables.{Names, Numbers}
use Rattle.mof_metamodel.proofs.numbering.literal_names.Given as goal

-- each enumeration so far has its names
abbrev pub invariant-loop-one : goal.invariant-loop-one
invariant-loop-one l = (length l.literals.items ≡ l.one-index)
    × ((e : ℕ) (d : Names) → e < l.one-index → Numbers (λ x. x) (enum_at l.desc e).literals (slice_index_or l.literals.items e d))
