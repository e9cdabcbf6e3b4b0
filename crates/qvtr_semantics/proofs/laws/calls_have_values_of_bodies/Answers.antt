use Rattle.qvtr_semantics.proofs.QueryLaws.{enough_calls, call_is_body}
use Rattle.qvtr_semantics.proofs.laws.calls_have_values_of_bodies.Goals as goal

pub returns-clause-enough : goal.returns-clause-enough
returns-clause-enough c = λ queries s acyclic n q args many. enough_calls queries s acyclic n q args many

pub returns-clause-body : goal.returns-clause-body
returns-clause-body c = λ queries s acyclic q query args found. call_is_body queries s acyclic q query args found
