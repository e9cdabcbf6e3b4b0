use Rattle.std.proofs.Common.{length}
use Rattle.ocl_types.proofs.operations.+first_iterator.Given as goal

abbrev pub decreases-first_iterator : goal.decreases-first_iterator
decreases-first_iterator l = length l.iterators.now
