use Rattle.qvtr_parser.proofs.OneAnswer.{begins_before}
use Rattle.qvtr_parser.proofs.laws.beginnings_begin.Goals as goal

pub returns : goal.returns
returns c = begins_before
