use Rattle.qvtr_semantics.specs.Expressions.{setting}
use Rattle.evaluation_laws.proofs.SlotLaws.{bound_types, bound_typings}
use Rattle.evaluation_laws.proofs.laws.bindings_are_scopes.Goals as goal

pub returns-clause-types : goal.returns-clause-types
returns-clause-types c = λ metas program contents rel e b valued. bound_types metas (setting program contents) rel e b valued

pub returns-clause-typings : goal.returns-clause-typings
returns-clause-typings c = λ metas program contents rel e b valued. bound_typings metas (setting program contents) rel e b valued
