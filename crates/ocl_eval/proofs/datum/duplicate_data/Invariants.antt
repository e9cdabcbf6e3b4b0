use Rattle.std.proofs.Common.{◌≡◌, take}
use Rattle.ocl_eval.proofs.datum.duplicate_data.Given as goal

abbrev pub invariant-loop-datum : goal.invariant-loop-datum
invariant-loop-datum l = l.copies ≡ take l.datum-index l.elements
