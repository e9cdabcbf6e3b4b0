use Rattle.std.proofs.Common.{◌≡◌, take}
use Rattle.model_assembly.specs.AssemblyObjects.{bare_model}
use Rattle.model_assembly.proofs.assembly.objects.bare_model.Given as goal

-- the objects so far
abbrev pub invariant-loop-o : goal.invariant-loop-o
invariant-loop-o l = l.model ≡ bare_model l.meta (take l.o l.classes) (take l.o l.ids)
