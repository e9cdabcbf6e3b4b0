use Rattle.std.proofs.Common.{◌≡◌, take}
use Rattle.std.specs.Prelude.{filter}
use Rattle.model_files.specs.Reflection.{is_of_class}
use Rattle.model_files.proofs.description.of_class.Given as goal

abbrev pub invariant-loop-o : goal.invariant-loop-o
invariant-loop-o l = l.kept ≡ filter (λ o. is_of_class l.model l.name o.0) (take l.o-index l.objects)
