use Rattle.std.proofs.Common.{◌≡◌, [], replicate}
use Rattle.mof_metamodel.proofs.subclasses.no_subclasses.Given as goal

abbrev pub invariant-loop-c : goal.invariant-loop-c
invariant-loop-c l = l.lists.items ≡ replicate l._c []
