use Rattle.ocl_parser.proofs.CompletionStates.{state_ends}
use Rattle.ocl_parser.proofs.completion_laws.open_constructs_end.Goals as goal

pub returns : goal.returns
returns c = state_ends
