use Rattle.std.proofs.Common.{◌≡◌, ◌≤◌, length, take}
use Rattle.object_tables.proofs.partners.shorten.Given as goal

-- the first ones stay
abbrev pub invariant-loop-objects : goal.invariant-loop-objects
invariant-loop-objects l = record {
  enough : l.count ≤ length l.objects;
  first : take l.count l.objects ≡ take l.count l.initial.objects;
}

abbrev pub decreases-loop-objects : goal.decreases-loop-objects
decreases-loop-objects l = length l.objects
