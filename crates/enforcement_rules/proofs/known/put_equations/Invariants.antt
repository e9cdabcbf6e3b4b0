use Rattle.std.proofs.Common.{◌≡◌, ◌++◌, take}
use Rattle.std.specs.List.{flat_map}
use Rattle.enforcement_rules.specs.KnownTests.{equation_rules}
use Rattle.enforcement_rules.proofs.known.put_equations.Given as goal

abbrev pub invariant-loop-conjunct : goal.invariant-loop-conjunct
invariant-loop-conjunct l = l.rules ≡ l.fn.rules ++ flat_map (equation_rules l.count) (take l.conjunct-index l.conjuncts)
