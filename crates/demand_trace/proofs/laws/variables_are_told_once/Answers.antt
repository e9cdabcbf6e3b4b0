use Rattle.reading_laws.proofs.EntryTime.{all_met}
use Rattle.demand_trace.proofs.GivenLaws.{values_given, made_others}
use Rattle.demand_trace.proofs.laws.variables_are_told_once.Goals as goal

pub returns-clause-values : goal.returns-clause-values
returns-clause-values c = values_given

pub returns-clause-made : goal.returns-clause-made
returns-clause-made c = λ metas program models p m target valid d set e rel entry found v within.
    made_others metas program models p m target valid d.entries set.entries (all_met metas program p.evaluable.well models set.acyclic set.short set.met) e rel entry found v within
