use Rattle.evaluation_laws.proofs.SlotLaws.{when_value, where_value}
use Rattle.evaluation_laws.proofs.laws.values_of_equations_are_allowed.Goals as goal

pub returns-clause-whens : goal.returns-clause-whens
returns-clause-whens c = λ metas program contents over number rel at place v e there scope valued var found d has.
    when_value metas program contents over.kept over.well over.texts number rel at place v e there scope valued var found d has

pub returns-clause-wheres : goal.returns-clause-wheres
returns-clause-wheres c = λ metas program contents over number rel at place v e there scope valued var found d has.
    where_value metas program contents over.kept over.well over.texts number rel at place v e there scope valued var found d has
