use Rattle.std.proofs.Common.{arith}
use Rattle.call_graph.proofs.SegmentLemmas.{last_apart}
use Rattle.call_graph.proofs.walk.last.Goals as goal

pub returns-in-len1-up : goal.returns-in-len1-up
returns-in-len1-up c = last_apart c.args.path.now record { place = 0; low = 0 } (omega arith)
