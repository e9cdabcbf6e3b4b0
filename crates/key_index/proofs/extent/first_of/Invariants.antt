use Rattle.std.proofs.Common.{◌≡◌, length}
use Rattle.key_index.specs.Instances.{objects_of, AreOrdered}
use Rattle.key_index.proofs.extent.first_of.Given as goal

abbrev pub invariant-loop-first : goal.invariant-loop-first
invariant-loop-first l = record {
  same : objects_of l.meta l.class.0 l.left ≡ objects_of l.meta l.class.0 l.instances;
  ordered : AreOrdered l.meta l.left;
}

abbrev pub decreases-loop-first : goal.decreases-loop-first
decreases-loop-first l = length l.left
