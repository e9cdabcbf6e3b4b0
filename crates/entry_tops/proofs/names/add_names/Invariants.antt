use Rattle.std.proofs.Common.{take}
use Rattle.entry_tops.specs.EntryNames.{HasNamesOf}
use Rattle.entry_tops.proofs.names.add_names.Given as goal

abbrev pub invariant-loop-e : goal.invariant-loop-e
invariant-loop-e l = HasNamesOf l.domains (take l.e-index l.entries) l.fn.matches l.matches
