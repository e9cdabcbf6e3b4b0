use Rattle.std.proofs.Common.{◌+◌, arith}
use Rattle.ocl_parser.specs.Completion.{opening_levels}
use Rattle.ocl_parser.proofs.CompletionExact.{reached_begins}
use Rattle.ocl_parser.proofs.completion_laws.readings_begin.Goals as goal

pub returns : goal.returns
returns c ts levels from k r order within reached = reached_begins ts levels from k r order within reached (levels + opening_levels r.state) (omega arith)
