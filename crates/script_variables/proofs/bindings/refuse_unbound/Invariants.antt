use Rattle.std.proofs.Common.{take}
use Rattle.std.specs.Prelude.{All}
use Rattle.script_variables.specs.Bindings.{IsBoundData}
use Rattle.script_variables.proofs.bindings.refuse_unbound.Given as goal

abbrev pub invariant-loop-name : goal.invariant-loop-name
invariant-loop-name l = All (IsBoundData l.types l.bound) (take l.name-index l.names)
