use Rattle.std.proofs.Common.{◌≡◌, ◌++◌, drop}
use Rattle.model_assembly.specs.AssemblyEntries.{entries_from}
use Rattle.model_assembly.proofs.assembly.entry.entries.Given as goal

-- the entries so far, and then those of the rest
abbrev pub invariant-loop-i : goal.invariant-loop-i
invariant-loop-i l = l.entries.items ++ entries_from l.meta l.classes l.i (drop l.i l.references) ≡ entries_from l.meta l.classes 0 l.references
