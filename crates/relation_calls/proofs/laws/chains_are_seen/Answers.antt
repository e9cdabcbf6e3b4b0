use Rattle.relation_calls.proofs.ChainLaws.{match_chains, holds_chains, top_chains}
use Rattle.relation_calls.proofs.laws.chains_are_seen.Goals as goal

pub returns-clause-matches : goal.returns-clause-matches
returns-clause-matches c = λ program models call chain. match_chains program models call chain

pub returns-clause-holds : goal.returns-clause-holds
returns-clause-holds c = λ program models call chain. holds_chains program models call chain

pub returns-clause-tops : goal.returns-clause-tops
returns-clause-tops c = λ program models call chain. top_chains program models call chain
