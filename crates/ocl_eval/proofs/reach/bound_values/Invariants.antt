use Rattle.std.proofs.Common.{◌≡◌, take}
use Rattle.qvtr_semantics.specs.Expressions.{scope_of}
use Rattle.ocl_eval.proofs.reach.bound_values.Given as goal

abbrev pub invariant-loop-value : goal.invariant-loop-value
invariant-loop-value l = l.outs ≡ scope_of (take l.value-index l.values)
