use Rattle.std.proofs.Common.{◌≡◌, [], replicate}
use Rattle.ocl_environments.proofs.query_calls.no_calls.Given as goal

abbrev pub invariant-loop-i : goal.invariant-loop-i
invariant-loop-i l = l.rows ≡ replicate l._i []
