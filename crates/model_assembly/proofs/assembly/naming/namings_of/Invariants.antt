use Rattle.std.proofs.Common.{◌≡◌, map, take}
use Rattle.model_assembly.specs.AssemblyNamings.{naming_of}
use Rattle.model_assembly.proofs.assembly.naming.namings_of.Given as goal

-- those so far
abbrev pub invariant-loop-entry : goal.invariant-loop-entry
invariant-loop-entry l = l.namings.items ≡ map naming_of (take l.entry-index l.entries)
