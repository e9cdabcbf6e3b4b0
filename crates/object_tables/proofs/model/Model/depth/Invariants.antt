use Rattle.std.proofs.Common.{◌≡◌, ◌-◌, length, List, ℕ, suc}
use Rattle.object_tables.specs.Models.{IsLive}
use Rattle.object_tables.specs.Containment.{IsContainerPath}
use Rattle.object_tables.proofs.model.Model.depth.Given as goal

-- a path of containers, one fewer than the depth so far, leads from the object to where the walk is
abbrev pub invariant-loop-container : goal.invariant-loop-container
invariant-loop-container l = IsLive l.self l.at.0 × ((path : List ℕ) × IsContainerPath l.self l.fn.o.0 path l.at.0 × (l.depth ≡ suc (length path)))

abbrev pub decreases-loop-container : goal.decreases-loop-container
decreases-loop-container l = length l.self.objects - l.depth
