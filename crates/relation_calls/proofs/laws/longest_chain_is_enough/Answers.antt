use Rattle.relation_calls.proofs.HeightLaws.{height_enough}
use Rattle.relation_calls.proofs.laws.longest_chain_is_enough.Goals as goal

pub returns : goal.returns
returns c = λ program models h n call high few. height_enough program models h n call high few
