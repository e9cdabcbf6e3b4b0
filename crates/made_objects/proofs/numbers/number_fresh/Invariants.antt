use Rattle.std.proofs.Common.{◌≡◌, ℕ, length, take}
use Rattle.made_objects.specs.Numbers.{object_in, numbered_at}
use Rattle.made_objects.proofs.numbers.number_fresh.Given as goal

abbrev pub invariant-loop-place : goal.invariant-loop-place
invariant-loop-place l = record {
  length : length l.objects ≡ length l.initial.objects;
  numbered : (k : ℕ) → object_in l.objects k ≡ numbered_at l.initial.objects l.end (take l.place l.fresh) k;
}
