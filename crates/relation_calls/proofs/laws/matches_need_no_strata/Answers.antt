use Rattle.relation_calls.proofs.CallLaws.{few_strata, match_is}
use Rattle.relation_calls.proofs.laws.matches_need_no_strata.Goals as goal

pub returns-clause-strata : goal.returns-clause-strata
returns-clause-strata c = λ program number rel formed is. few_strata program formed number rel is

pub returns-clause-matches : goal.returns-clause-matches
returns-clause-matches c = λ program models call rel formed is. match_is program formed models call rel is
