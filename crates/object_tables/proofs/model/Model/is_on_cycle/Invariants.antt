use Rattle.std.proofs.Common.{length, List, ℕ}
use Rattle.object_tables.specs.Models.{IsLive}
use Rattle.object_tables.specs.Containment.{IsContainerPath, IsOnCycle}
use Rattle.object_tables.proofs.ContainmentLemmas.{LeadsBack}
use Rattle.object_tables.proofs.model.Model.is_on_cycle.Given as goal

-- a path leads to where the walk is, and if the object is on a cycle another one from there leads back in time
abbrev pub invariant-loop-step : goal.invariant-loop-step
invariant-loop-step l = record {
  live : IsLive l.self l.at.0;
  way : (path : List ℕ) × IsContainerPath l.self l.o.0 path l.at.0;
  back : IsOnCycle l.self l.o.0 → LeadsBack l.self l.at.0 l.o.0 l._step (length l.self.objects);
}
