use Rattle.check_mode.proofs.VerdictLaws.{one_verdict}
use Rattle.check_mode.proofs.laws.verdicts_are_one.Goals as goal

pub returns : goal.returns
returns c = λ program models verdict other x y. one_verdict program models verdict other x y
