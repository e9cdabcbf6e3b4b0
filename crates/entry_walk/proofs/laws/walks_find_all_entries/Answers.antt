use Rattle.entry_walk.proofs.WalkLaws.{all_among, only_entries, no_cycle, no_deep, none_unmet}
use Rattle.entry_walk.proofs.laws.walks_find_all_entries.Goals as goal

pub returns-clause-entries : goal.returns-clause-entries
returns-clause-entries c = λ metas program models tops walked formed walk e. (all_among metas program formed models tops walked walk e, only_entries metas program formed models tops walked walk e)

pub returns-clause-cycles : goal.returns-clause-cycles
returns-clause-cycles c = λ metas program models tops walked formed walk chain. no_cycle metas program formed models tops walked walk chain

pub returns-clause-deep : goal.returns-clause-deep
returns-clause-deep c = λ metas program models tops walked formed walk chain. no_deep metas program formed models tops walked walk chain

pub returns-clause-met : goal.returns-clause-met
returns-clause-met c = λ metas program models tops walked formed walk e. none_unmet metas program formed models tops walked walk e
