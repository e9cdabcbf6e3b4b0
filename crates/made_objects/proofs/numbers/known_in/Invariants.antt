use Rattle.std.proofs.Common.{◌≡◌, take}
use Rattle.made_objects.specs.Numbers.{known_in}
use Rattle.made_objects.proofs.numbers.known_in.Given as goal

abbrev pub invariant-loop-term : goal.invariant-loop-term
invariant-loop-term l = l.known ≡ known_in l.objects (take l.term-index l.terms)
