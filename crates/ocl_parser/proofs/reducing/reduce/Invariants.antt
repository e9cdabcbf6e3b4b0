use Rattle.std.proofs.Common.{◌≡◌, length}
use Rattle.ocl_parser.specs.Moves.{reduced}
use Rattle.ocl_parser.proofs.reducing.reduce.Given as goal

abbrev pub invariant-loop-frame : goal.invariant-loop-frame
invariant-loop-frame l = reduced l.level l.stack l.subtree ≡ reduced l.level l.fn.stack l.fn.subtree

abbrev pub decreases-loop-frame : goal.decreases-loop-frame
decreases-loop-frame l = length l.stack
