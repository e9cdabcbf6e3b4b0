use Rattle.std.proofs.Common.{◌≡◌, drop}
use Rattle.script_scopes.specs.FirstEntries.{entries_onto}
use Rattle.script_variables.proofs.variable_types.put_types.Given as goal

abbrev pub invariant-loop-typing : goal.invariant-loop-typing
invariant-loop-typing l = entries_onto l.table (drop l.typing-index l.typings) ≡ entries_onto l.fn.table l.typings
