-- What a search among classifiers finds.
use Rattle.std.specs.Prelude.{List, Option, None, Some, fold}
use Rattle.ocl_environments.specs.declared.classifier.Classifier.{Classifier}
use Rattle.ocl_environments.specs.declared.classifier.Found.{Found}
use Rattle.ocl_environments.specs.declared.classifier.Found.TheVariants.{Nothing, One, Several}

-- what is found with one more
abbrev pub next_found : Found → Classifier → Found
next_found Nothing c = One c
next_found (One b) c = Several
next_found Several c = Several

-- what is found with these as well
abbrev pub with_found : Found → List Classifier → Found
with_found found cs = fold next_found found cs

abbrev pub one_of : Found → Option Classifier
one_of Nothing = None
one_of (One c) = Some c
one_of Several = None
