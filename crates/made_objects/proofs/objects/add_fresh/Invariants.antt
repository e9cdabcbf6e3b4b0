use Rattle.std.proofs.Common.{◌≡◌, ◌≤◌, ◌+◌, length, take}
use Rattle.made_objects.specs.Making.{terms_at}
use Rattle.made_objects.specs.Headers.{unused_below, with_new}
use Rattle.made_objects.proofs.objects.add_fresh.Given as goal

abbrev pub invariant-loop-term : goal.invariant-loop-term
invariant-loop-term l = record {
  made : l.made ≡ with_new l.initial.made (terms_at l.table (take l.term-index l.fresh)) (unused_below l.target l.next);
  found : length (unused_below l.target l.next) ≡ l.term-index;
  next : l.next ≤ l.term-index + length l.target.objects;
}
