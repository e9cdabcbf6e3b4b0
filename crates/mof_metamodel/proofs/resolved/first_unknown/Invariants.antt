use Rattle.std.proofs.Common.{◌≡◌, drop}
use Rattle.mof_metamodel.specs.MetaFaults.{first_of, unknown_in_class}
use Rattle.mof_metamodel.proofs.resolved.first_unknown.Given as goal

-- nothing is found so far
abbrev pub invariant-loop-class : goal.invariant-loop-class
invariant-loop-class l = first_of (unknown_in_class l.named) (drop l.class-index l.named.classes) ≡ first_of (unknown_in_class l.named) l.named.classes
