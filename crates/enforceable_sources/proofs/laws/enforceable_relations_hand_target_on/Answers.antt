use Rattle.enforceable_sources.proofs.EnforceableLaws.{hands_on, enforceable_hands_on}
use Rattle.enforceable_sources.proofs.laws.enforceable_relations_hand_target_on.Goals as goal

pub returns-clause-rule : goal.returns-clause-rule
returns-clause-rule c = λ metas program rel formed kept. hands_on metas program formed rel kept

pub returns-clause-enforceable : goal.returns-clause-enforceable
returns-clause-enforceable c = λ metas program number rel formed enforceable found is. enforceable_hands_on metas program formed number rel enforceable found is
