use Rattle.std.proofs.Common.{◌≡◌, ◌<◌, ℕ, length}
use Rattle.std.specs.Prelude.{slice_index_or}
use Rattle.mof_metamodel.specs.Metamodels.{class_at}
use Rattle.mof_metamodel.specs.Tables.{Names, Numbers}
use Rattle.mof_metamodel.proofs.numbering.own_names.Given as goal

-- each class so far has its names
abbrev pub invariant-loop-class : goal.invariant-loop-class
invariant-loop-class l = (length l.own.items ≡ l.class-index)
    × ((c : ℕ) (d : Names) → c < l.class-index → Numbers (λ p. p.name) (class_at l.desc c).props (slice_index_or l.own.items c d))
