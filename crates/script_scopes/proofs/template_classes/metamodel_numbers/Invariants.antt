use Rattle.std.proofs.Common.{◌≡◌, drop}
use Rattle.script_scopes.specs.FirstEntries.{entries_onto, first_entries}
use Rattle.script_scopes.specs.VariableTypes.{metamodel_numbers}
use Rattle.script_scopes.proofs.template_classes.metamodel_numbers.Given as goal

abbrev pub invariant-loop-slot : goal.invariant-loop-slot
invariant-loop-slot l = entries_onto l.table (metamodel_numbers (drop l.slot-index l.slots)) ≡ first_entries (metamodel_numbers l.slots)
