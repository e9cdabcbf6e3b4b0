use Rattle.enforcement_laws.proofs.Replacing.{enforced_moved}
use Rattle.enforcement_laws.proofs.targets.targets_are_replaced.Goals as goal

pub returns : goal.returns
returns c = λ metas program models m n can target kept same. enforced_moved program models m n target metas can same kept
