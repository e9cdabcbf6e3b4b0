use Rattle.qv_syntax.proofs.QueryLaws.{no_long_chain}
use Rattle.qv_syntax.proofs.laws.calls_of_queries_end.Goals as goal

pub returns : goal.returns
returns c = λ queries n q acyclic long. no_long_chain queries acyclic n q long
