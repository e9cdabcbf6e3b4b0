use Rattle.ocl_parser.proofs.CompletionReads.{reached_ends}
use Rattle.ocl_parser.proofs.completion_laws.readings_end.Goals as goal

pub returns : goal.returns
returns c = reached_ends
