use Rattle.object_tables.specs.Models.{IsLive}
use Rattle.object_tables.specs.Climbs.{AreDepths}
use Rattle.object_tables.specs.Containment.{IsDepth}
use Rattle.object_tables.proofs.model.Model.put_depths.Given as goal

-- what is left is the depth of the object to which the walk has come
abbrev pub invariant-loop-depths : goal.invariant-loop-depths
invariant-loop-depths l = record {
  live : IsLive l.self l.at.0;
  depth : IsDepth l.self l.at.0 l.left;
  depths_are : AreDepths l.self l.depths;
}

abbrev pub decreases-loop-depths : goal.decreases-loop-depths
decreases-loop-depths l = l.left
