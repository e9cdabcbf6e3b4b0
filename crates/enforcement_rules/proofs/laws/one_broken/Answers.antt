use Rattle.enforcement_rules.proofs.RuleLaws.{one_answer}
use Rattle.enforcement_rules.proofs.laws.one_broken.Goals as goal

pub returns : goal.returns
returns c = one_answer
