use Rattle.ocl_parser.proofs.CompletionAnswers.{tree_is, stuck_is, deep_is}
use Rattle.ocl_parser.proofs.completion_laws.answers_are_exact.Goals as goal

pub returns : goal.returns
returns c = record { tree = tree_is; stuck = stuck_is; deep = deep_is }
