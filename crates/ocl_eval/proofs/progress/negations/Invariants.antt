use Rattle.std.proofs.Common.{◌≡◌, take, map}
use Rattle.std.specs.Prelude.{not}
use Rattle.ocl_eval.proofs.progress.negations.Given as goal

abbrev pub invariant-loop-condition : goal.invariant-loop-condition
invariant-loop-condition l = l.list ≡ map not (take l.condition-index l.conditions)
