use Rattle.std.proofs.Common.{◌≡◌, ◌-◌, length, List, ℕ}
use Rattle.object_tables.specs.Models.{IsLive}
use Rattle.object_tables.specs.Containment.{IsContainerPath}
use Rattle.object_tables.proofs.model.Model.depth_by.Given as goal

-- a path of so many containers leads from the object to where the walk is
abbrev pub invariant-loop-at : goal.invariant-loop-at
invariant-loop-at l = record {
  live : IsLive l.self l.at.0;
  way : (path : List ℕ) × IsContainerPath l.self l.fn.o.0 path l.at.0 × (l.below ≡ length path);
}

abbrev pub decreases-loop-at : goal.decreases-loop-at
decreases-loop-at l = length l.self.objects - l.below
