use Rattle.std.proofs.Common.{◌≡◌, ℕ, List, Option, drop}
use Rattle.ocl_environments.specs.declared.classifier.Wanted.{Wanted}
use Rattle.ocl_environments.specs.declared.classifier.Found.TheVariants.{Nothing}
use Rattle.ocl_environments.specs.Classifiers.{classifiers_from}
use Rattle.ocl_environments.specs.Finding.{with_found}
use Rattle.ocl_environments.specs.Meanings.{found_as}
use Rattle.ocl_environments.specs.ClassifierIndexes.{index_meaning, IsIndex}
use Rattle.ocl_environments.proofs.classifier_index.ClassifierIndex.over.Given as goal

-- with what is found in the rest of the metamodels, what was found is the whole
abbrev pub invariant-loop-m : goal.invariant-loop-m
invariant-loop-m l = IsIndex l.index
    × ((wanted : Wanted) (q : Option (List ℕ)) (n : List ℕ) → with_found (found_as wanted (index_meaning l.index q n)) (classifiers_from wanted l.m (drop l.m l.metas) l.names q n)
    ≡ with_found Nothing (classifiers_from wanted 0 l.metas l.names q n))
