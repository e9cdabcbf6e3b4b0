use Rattle.std.proofs.Common.{ℕ, List, map, take}
use Rattle.std.specs.List.{AllZip}
use Rattle.script_variables.specs.Variables.{IsVarOf}
use Rattle.script_variables.proofs.variables.variables.Given as goal

abbrev pub invariant-loop-name : goal.invariant-loop-name
invariant-loop-name l = AllZip (IsVarOf l.types l.models (map {A = List ℕ × ℕ} {B = List ℕ} (λ e. e.0) l.names.models)) (take l.name-index l.listed) l.out
