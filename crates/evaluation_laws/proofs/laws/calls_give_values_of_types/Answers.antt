use Rattle.evaluation_laws.proofs.CallLaws.{when_call, where_call}
use Rattle.evaluation_laws.proofs.laws.calls_give_values_of_types.Goals as goal

pub returns-clause-whens : goal.returns-clause-whens
returns-clause-whens c = λ metas program contents over rel b among number args there each called found call made.
    when_call metas program contents over.kept over.well over.texts rel b among number args there each called found call made

pub returns-clause-wheres : goal.returns-clause-wheres
returns-clause-wheres c = λ metas program contents over rel b among number args there each called found call made.
    where_call metas program contents over.kept over.well over.texts rel b among number args there each called found call made
