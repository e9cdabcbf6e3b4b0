use Rattle.std.proofs.Common.{length}
use Rattle.ocl_types.proofs.collection_operations.+first_operation.Given as goal

abbrev pub decreases-first_operation : goal.decreases-first_operation
decreases-first_operation l = length l.operations.now
