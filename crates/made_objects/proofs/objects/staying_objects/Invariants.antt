use Rattle.std.proofs.Common.{◌≡◌, length}
use Rattle.made_objects.specs.Making.{is_staying}
use Rattle.made_objects.specs.Headers.{KeepsWhere, is_left_from}
use Rattle.made_objects.proofs.objects.staying_objects.Given as goal

abbrev pub invariant-loop-o : goal.invariant-loop-o
invariant-loop-o l = record {
  kept : KeepsWhere l.target (is_left_from l.o (is_staying l.staying)) l.made;
  end : l.o-end ≡ length l.target.objects;
}
