use Rattle.enforcement_rules.proofs.RuleLaws.{kept_by_each}
use Rattle.enforcement_rules.proofs.laws.rules_are_kept.Goals as goal

pub returns : goal.returns
returns c = kept_by_each
