use Rattle.demand_sources.proofs.EntriesMoved.{entry_moved, entry_back}
use Rattle.demand_sources.proofs.ChainsMoved.{cyclic_to, cyclic_back, deep_to, deep_back, unmet_to, unmet_back}
use Rattle.demand_sources.proofs.laws.entries_are_of_sources.Goals as goal

pub returns-clause-entries : goal.returns-clause-entries
returns-clause-entries c = λ metas program ms ns evaluable enforceable agree meta e.
    (entry_moved metas program ms ns evaluable enforceable agree meta e, entry_back metas program ms ns evaluable enforceable agree meta e)

pub returns-clause-cycles : goal.returns-clause-cycles
returns-clause-cycles c = λ metas program ms ns evaluable enforceable agree meta chain.
    (cyclic_to metas program ms ns evaluable enforceable agree meta chain, cyclic_back metas program ms ns evaluable enforceable agree meta chain)

pub returns-clause-deep : goal.returns-clause-deep
returns-clause-deep c = λ metas program ms ns evaluable enforceable agree meta chain.
    (deep_to metas program ms ns evaluable enforceable agree meta chain, deep_back metas program ms ns evaluable enforceable agree meta chain)

pub returns-clause-unmet : goal.returns-clause-unmet
returns-clause-unmet c = λ metas program ms ns evaluable enforceable agree meta e.
    (unmet_to metas program ms ns evaluable enforceable agree meta e, unmet_back metas program ms ns evaluable enforceable agree meta e)
