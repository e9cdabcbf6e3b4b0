use Rattle.std.specs.Prelude.{[]}
use Rattle.evaluation_laws.proofs.CallLaws.{when_argument, where_argument}
use Rattle.evaluation_laws.proofs.laws.arguments_are_of_their_types.Goals as goal

pub returns-clause-whens : goal.returns-clause-whens
returns-clause-whens c = λ metas program contents over rel among number args there called found place dom e one other is_data.
    when_argument metas program contents over.kept over.well over.texts rel [] among number args there called found place dom e one other is_data

pub returns-clause-wheres : goal.returns-clause-wheres
returns-clause-wheres c = λ metas program contents over rel among number args there called found place dom e one other is_data.
    where_argument metas program contents over.kept over.well over.texts rel [] among number args there called found place dom e one other is_data
