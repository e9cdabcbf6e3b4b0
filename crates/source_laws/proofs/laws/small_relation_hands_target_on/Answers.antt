use Rattle.source_laws.proofs.Examples.{hands_on, small_agree}
use Rattle.source_laws.proofs.laws.small_relation_hands_target_on.Goals as goal

pub returns-clause-rule : goal.returns-clause-rule
returns-clause-rule c = hands_on

pub returns-clause-agree : goal.returns-clause-agree
returns-clause-agree c = small_agree
