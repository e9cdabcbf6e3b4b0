use Rattle.source_laws.proofs.CallLaws.{calls_same}
use Rattle.source_laws.proofs.RootLaws.{call_apart}
use Rattle.source_laws.proofs.AlikeLaws.{calls_alike}
use Rattle.source_laws.proofs.laws.calls_are_of_sources.Goals as goal

pub returns-clause-same : goal.returns-clause-same
returns-clause-same c = λ program ms ns rel clause b agree plain apart. calls_same program ms ns agree rel b apart clause plain

pub returns-clause-roots : goal.returns-clause-roots
returns-clause-roots c = λ metas program models number rel clause b call called formed found there rule apart within is.
    call_apart metas program formed number rel found models b apart clause there rule call called within is

pub returns-clause-alike : goal.returns-clause-alike
returns-clause-alike c = λ metas program ms ns number rel clause b d formed found there rule agree apart differ.
    calls_alike metas program formed number rel found rule ms ns agree b d apart differ clause there
