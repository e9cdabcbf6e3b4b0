use Rattle.std.proofs.Common.{◌≡◌, map, take}
use Rattle.model_files.specs.Described.{name_of}
use Rattle.model_files.proofs.description.names_of.Given as goal

abbrev pub invariant-loop-o : goal.invariant-loop-o
invariant-loop-o l = l.names ≡ map (λ o. name_of l.model o.0) (take l.o-index l.objects)
