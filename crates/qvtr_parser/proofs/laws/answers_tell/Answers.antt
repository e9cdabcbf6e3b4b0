use Rattle.std.proofs.Common.{arith}
use Rattle.ocl_parser.specs.declared.limits.TheConstants.{MAX_NESTING}
use Rattle.qvtr_parser.proofs.OneAnswer.{answer_tells_exactly}
use Rattle.qvtr_parser.proofs.laws.answers_tell.Goals as goal

pub returns : goal.returns
returns c = λ text result. answer_tells_exactly text MAX_NESTING (omega arith) result
