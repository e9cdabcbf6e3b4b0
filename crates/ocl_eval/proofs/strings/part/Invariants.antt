use Rattle.std.proofs.Common.{◌≡◌}
use Rattle.ocl_eval.proofs.strings.part.Given as goal

abbrev pub invariant-loop-c : goal.invariant-loop-c
invariant-loop-c l = l.part ≡ l.yielded
