use Rattle.std.proofs.Common.{refl, inr}
use Rattle.qv_syntax.specs.Relations.{IsUniversal}
use Rattle.source_laws.proofs.RelationLaws.{expression_same, expression_alike, clause_alike, equation_apart}
use Rattle.source_laws.proofs.laws.expressions_are_of_sources.Goals as goal

pub returns-clause-same : goal.returns-clause-same
returns-clause-same c = λ program ms ns rel e b agree rule apart is. expression_same program ms ns agree rel rule b apart e is

pub returns-clause-alike : goal.returns-clause-alike
returns-clause-alike c = λ program ms ns rel e b d agree rule apart both is names. expression_alike program ms ns agree rel rule b d apart both e is names

pub returns-clause-wheres : goal.returns-clause-wheres
returns-clause-wheres c = λ program ms ns number rel b d meant found agree rule apart both.
    let is = meant number rel found in
    clause_alike program ms ns agree rel rule b d apart both (λ v. ¬ IsUniversal program rel v) rel.wheres (λ x within. inr within) is.variables is.wheres

pub returns-clause-equations : goal.returns-clause-equations
returns-clause-equations c = λ program models rel v e d b rule apart there is. equation_apart program models models (λ m other. refl) rel rule b apart v e d there is
