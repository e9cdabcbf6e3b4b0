use Rattle.qvtr_semantics.proofs.RowAnswers.{packages_and_schemas_are_satisfied, package_b_is_the_least}
use Rattle.qvtr_semantics.proofs.CallAnswers.{package_call_matches, call_comes_back}
use Rattle.qvtr_semantics.proofs.WhereAnswers.{package_call_holds, other_call_fails}
use Rattle.qvtr_semantics.proofs.laws.small_models_are_told.Goals as goal

pub returns-clause-satisfied : goal.returns-clause-satisfied
returns-clause-satisfied c = packages_and_schemas_are_satisfied

pub returns-clause-least : goal.returns-clause-least
returns-clause-least c = package_b_is_the_least

pub returns-clause-matches : goal.returns-clause-matches
returns-clause-matches c = package_call_matches

pub returns-clause-cycle : goal.returns-clause-cycle
returns-clause-cycle c = call_comes_back

pub returns-clause-holds : goal.returns-clause-holds
returns-clause-holds c = package_call_holds

pub returns-clause-fails : goal.returns-clause-fails
returns-clause-fails c = other_call_fails
