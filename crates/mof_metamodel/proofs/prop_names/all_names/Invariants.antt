use Rattle.std.proofs.Common.{take}
use Rattle.mof_metamodel.specs.Metamodels.{declared_props}
use Rattle.mof_metamodel.specs.Tables.{Numbers}
use Rattle.mof_metamodel.proofs.prop_names.all_names.Given as goal

-- the names so far number the properties so far
abbrev pub invariant-loop-p : goal.invariant-loop-p
invariant-loop-p l = Numbers (λ d. d.1.name) (take l.p (declared_props l.named)) l.names
