use Rattle.std.proofs.Common.{ap}
use Rattle.relation_calls.proofs.OutsideLaws.{call_at}
use Rattle.relation_calls.proofs.calls.name_of.Goals as goal

pub returns : goal.returns
returns c = ap (call_at c.args.rel) c.in_ok-roots.ensures
