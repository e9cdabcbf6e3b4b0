use Rattle.relation_calls.proofs.FailingLaws.{first_is_one, least_is_one}
use Rattle.relation_calls.proofs.laws.least_is_one.Goals as goal

pub returns-clause-first : goal.returns-clause-first
returns-clause-first c = λ program models number other b d one two. first_is_one program models number other b d one two

pub returns-clause-least : goal.returns-clause-least
returns-clause-least c = λ program models number b d one other. least_is_one program models number b d one other
