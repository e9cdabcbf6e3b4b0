use Rattle.repair_laws.proofs.SecondLook.{made_stays_for}
use Rattle.repair_laws.proofs.second_look.repairs_stay.Goals as goal

pub returns : goal.returns
returns c = λ metas program models m entries can n same valid others are. made_stays_for metas program models m entries can n same valid others are
