use Rattle.source_laws.proofs.QueryLaws.{scope_alike, value_of_sources}
use Rattle.source_laws.proofs.laws.values_are_of_sources.Goals as goal

pub returns-clause-scopes : goal.returns-clause-scopes
returns-clause-scopes c = λ program ms ns e x y agree speaks long same. scope_alike program ms ns e x y agree speaks long same

pub returns-clause-same : goal.returns-clause-same
returns-clause-same c = λ program ms ns e b agree speaks named. (value_of_sources program ms ns e b agree speaks named).0

pub returns-clause-apart : goal.returns-clause-apart
returns-clause-apart c = λ program ms ns e b agree speaks named. (value_of_sources program ms ns e b agree speaks named).1
