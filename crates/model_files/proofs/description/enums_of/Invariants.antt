use Rattle.std.proofs.Common.{◌≡◌, map, take}
use Rattle.model_files.specs.Described.{enum_of}
use Rattle.model_files.proofs.description.enums_of.Given as goal

abbrev pub invariant-loop-e : goal.invariant-loop-e
invariant-loop-e l = l.descs ≡ map (λ e. enum_of l.model e.0) (take l.e-index l.enums)
