use Rattle.std.proofs.Common.{length}
use Rattle.ocl_types.proofs.operations.+first_class_operation.Given as goal

abbrev pub decreases-first_class_operation : goal.decreases-first_class_operation
decreases-first_class_operation l = length l.operations.now
