use Rattle.std.proofs.Common.{subst}
use Rattle.check_mode.specs.Verdicts.{IsVerdictOf, IsFoundOf}
use Rattle.check_mode.proofs.TopLaws.{yes_more, first_no}
use Rattle.check_mode.proofs.checking.with_relation.Goals as goal

pub returns-in-Some : goal.returns-in-Some
returns-in-Some c = λ p m before found.
    first_no p m c.args.number c.in-Some.binding.values (subst (IsVerdictOf p m c.args.number) c.in-Yes.is before) (subst (IsFoundOf p m c.args.number) c.in-Some.is found)

pub returns-in-None : goal.returns-in-None
returns-in-None c = λ p m before found. yes_more p m c.args.number (subst (IsVerdictOf p m c.args.number) c.in-Yes.is before) (subst (IsFoundOf p m c.args.number) c.in-None.is found)

pub returns-in-No : goal.returns-in-No
returns-in-No c = λ p m before found. subst (IsVerdictOf p m c.args.number) c.in-No.is before
