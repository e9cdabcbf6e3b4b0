use Rattle.staying_objects.proofs.KindLaws.{AddsBefore}
use Rattle.staying_objects.proofs.kinds.mark_kinds.Given as goal

abbrev pub invariant-loop-c : goal.invariant-loop-c
invariant-loop-c l = AddsBefore l.meta l.class.0 l.fn.marks l.marks l.c
