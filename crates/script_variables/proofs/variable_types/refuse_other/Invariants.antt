use Rattle.std.proofs.Common.{take}
use Rattle.std.specs.Prelude.{All}
use Rattle.script_scopes.specs.VariableTypes.{IsAgreed}
use Rattle.script_variables.proofs.variable_types.refuse_other.Given as goal

abbrev pub invariant-loop-class : goal.invariant-loop-class
invariant-loop-class l = All (IsAgreed l.declared) (take l.class-index l.classes)
