use Rattle.std.proofs.Common.{◌≡◌, map, take}
use Rattle.model_files.specs.Described.{class_of}
use Rattle.model_files.proofs.description.classes_of.Given as goal

abbrev pub invariant-loop-c : goal.invariant-loop-c
invariant-loop-c l = l.descs ≡ map (λ c. class_of l.model l.root.0 c.0) (take l.c-index l.classes)
