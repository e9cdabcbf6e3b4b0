use Rattle.std.proofs.Common.{◌≡◌, drop, chars}
use Rattle.mof_metamodel.specs.NameTables.{value_of}
use Rattle.script_scopes.specs.VariableTypes.{metamodel_numbers}
use Rattle.qvtr_engine.proofs.reading_inputs.meta_number.Given as goal

-- the first of the name is the first of those that are left
abbrev pub invariant-loop-slot : goal.invariant-loop-slot
invariant-loop-slot l = value_of (metamodel_numbers (drop l.slot-index l.slots)) (chars l.name) ≡ value_of (metamodel_numbers l.slots) (chars l.name)
