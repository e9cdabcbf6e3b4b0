use Rattle.qvtr_semantics.proofs.StrataLaws.{strata_enough, holds_enough}
use Rattle.qvtr_semantics.proofs.laws.strata_are_enough.Goals as goal

pub returns-clause-matches : goal.returns-clause-matches
returns-clause-matches c = λ program models s n call few many. strata_enough program models s n call few many

pub returns-clause-holds : goal.returns-clause-holds
returns-clause-holds c = λ program models s n calls call few many. holds_enough program models s n calls call few many
