use Rattle.std.proofs.Common.{◌≡◌, take}
use Rattle.qvtr_types.proofs.relations.copies_of.Given as goal

abbrev pub invariant-loop-var : goal.invariant-loop-var
invariant-loop-var l = l.out ≡ take l.var-index l.vars
