use Rattle.std.proofs.Common.{◌+◌, ◌*◌}
use Rattle.ocl_parser.proofs.written_types.+read_type.Given as goal

abbrev pub decreases-read_elements : goal.decreases-read_elements
decreases-read_elements l = 3 * l.levels

abbrev pub decreases-read_from : goal.decreases-read_from
decreases-read_from l = 3 * l.levels + 1

abbrev pub decreases-read_type : goal.decreases-read_type
decreases-read_type l = 3 * l.levels + 2
