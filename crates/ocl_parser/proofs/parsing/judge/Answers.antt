use Rattle.std.proofs.Common.{refl}
use Rattle.ocl_parser.proofs.parsing.judge.Goals as goal

pub returns-in-Refused : goal.returns-in-Refused
returns-in-Refused c = rw c.in-Refused.is refl
