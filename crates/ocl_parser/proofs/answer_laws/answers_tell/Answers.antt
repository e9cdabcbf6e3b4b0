use Rattle.ocl_parser.proofs.AnswerLaws.{answers_told}
use Rattle.ocl_parser.proofs.answer_laws.answers_tell.Goals as goal

pub returns : goal.returns
returns c = answers_told
