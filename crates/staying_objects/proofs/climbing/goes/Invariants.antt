use Rattle.staying_objects.proofs.FateLaws.{IsClimb}
use Rattle.staying_objects.proofs.climbing.goes.Given as goal

abbrev pub invariant-loop-step : goal.invariant-loop-step
invariant-loop-step l = IsClimb l.repair l.fn.o.0 l.at.0 l._step
