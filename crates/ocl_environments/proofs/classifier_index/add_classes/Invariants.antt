use Rattle.std.proofs.Common.{◌≡◌, ℕ, List}
use Rattle.mof_metamodel.specs.Metamodels.{class_number}
use Rattle.ocl_environments.specs.Meanings.{meaning_in, with_option, class_of_number, below, IsParallel}
use Rattle.ocl_environments.proofs.classifier_index.add_classes.Given as goal

-- the classes so far are added
abbrev pub invariant-loop-c : goal.invariant-loop-c
invariant-loop-c l = IsParallel l.table
    × ((n : List ℕ) → meaning_in l.table n ≡ with_option (meaning_in l.fn.table n) (class_of_number l.m (below l.c (class_number l.meta n))))
