use Rattle.std.proofs.Common.{◌≡◌, ℕ, List}
use Rattle.mof_metamodel.specs.Metamodels.{enum_number}
use Rattle.ocl_environments.specs.Meanings.{meaning_in, with_option, enum_of_number, below, IsParallel}
use Rattle.ocl_environments.proofs.classifier_index.add_enums.Given as goal

-- the enumerations so far are added
abbrev pub invariant-loop-e : goal.invariant-loop-e
invariant-loop-e l = IsParallel l.table
    × ((n : List ℕ) → meaning_in l.table n ≡ with_option (meaning_in l.fn.table n) (enum_of_number l.m (below l.e (enum_number l.meta n))))
