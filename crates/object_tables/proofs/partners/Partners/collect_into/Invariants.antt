use Rattle.std.proofs.Common.{◌≡◌, ◌++◌, ◌≤◌, length, take}
use Rattle.object_tables.proofs.partners.Partners.collect_into.Given as goal

-- the partners so far stand behind what was there
abbrev pub invariant-loop-partner : goal.invariant-loop-partner
invariant-loop-partner l = record {
  whole : l.out ++ l.left ≡ l.initial.out ++ l.fn.self;
  before : take l.count l.out ≡ l.initial.out;
  enough : l.count ≤ length l.out;
}

abbrev pub decreases-loop-partner : goal.decreases-loop-partner
decreases-loop-partner l = length l.left
