use Rattle.enforcement_rules.proofs.RuleLaws.{answer_refuses}
use Rattle.enforcement_rules.proofs.laws.broken_is_refused.Goals as goal

pub returns : goal.returns
returns c = answer_refuses
