use Rattle.std.proofs.Common.{◌≡◌, map, take}
use Rattle.model_files.specs.Described.{owned_name}
use Rattle.model_files.proofs.description.super_names.Given as goal

abbrev pub invariant-loop-c : goal.invariant-loop-c
invariant-loop-c l = l.names ≡ map (λ c. owned_name l.model l.root.0 c.0) (take l.c-index l.classes)
