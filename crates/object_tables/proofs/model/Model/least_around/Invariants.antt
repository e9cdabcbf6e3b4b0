use Rattle.std.proofs.Common.{length}
use Rattle.object_tables.specs.Models.{IsLive}
use Rattle.object_tables.proofs.ContainmentLemmas.{LeadsBack}
use Rattle.object_tables.proofs.ClimbLemmas.{IsRound}
use Rattle.object_tables.proofs.model.Model.least_around.Given as goal

-- the way from the object has come to where the walk is, and another one from there leads back in time
abbrev pub invariant-loop-step : goal.invariant-loop-step
invariant-loop-step l = record {
  live : IsLive l.self l.at.0;
  back : LeadsBack l.self l.at.0 l.o.0 l._step (length l.self.objects);
  round : IsRound l.self l.o.0 l.at.0 l.least.0 l._step;
}
