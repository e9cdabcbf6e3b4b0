use Rattle.qvtr_engine.specs.Putting.{put_badly}
use Rattle.qvtr_engine.proofs.putting.put.Goals as goal

pub returns-in-Err-clause-ends : goal.returns-in-Err-clause-ends
returns-in-Err-clause-ends g c = put_badly c.in-Err.ensures.failed c.in-Err.ensures.err c.finish-in-Err.ensures.ends
