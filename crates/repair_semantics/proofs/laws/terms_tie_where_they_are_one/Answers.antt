use Rattle.repair_semantics.proofs.TieLaws.{ties_are_one}
use Rattle.repair_semantics.proofs.laws.terms_tie_where_they_are_one.Goals as goal

pub returns : goal.returns
returns c = ties_are_one
