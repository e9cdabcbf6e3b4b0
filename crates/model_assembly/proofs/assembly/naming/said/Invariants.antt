use Rattle.std.proofs.Common.{◌≡◌, map, take}
use Rattle.model_assembly.specs.AssemblyNamings.{saying_of}
use Rattle.model_assembly.proofs.assembly.naming.said.Given as goal

-- those so far
abbrev pub invariant-loop-naming : goal.invariant-loop-naming
invariant-loop-naming l = l.sayings.items ≡ map saying_of (take l.naming-index l.namings)
