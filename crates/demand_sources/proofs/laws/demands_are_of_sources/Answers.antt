use Rattle.demand_sources.proofs.EntriesMoved.{demands_same}
use Rattle.demand_sources.proofs.ChainsMoved.{are_to, are_back}
use Rattle.demand_sources.proofs.laws.demands_are_of_sources.Goals as goal

pub returns-clause-entries : goal.returns-clause-entries
returns-clause-entries c = λ metas program ms ns evaluable enforceable agree meta entries.
    (are_to metas program ms ns evaluable enforceable agree meta entries, are_back metas program ms ns evaluable enforceable agree meta entries)

pub returns-clause-demands : goal.returns-clause-demands
returns-clause-demands c = λ metas program ms ns evaluable enforceable agree meta entries are.
    demands_same metas program ms ns evaluable enforceable agree meta entries are.only
