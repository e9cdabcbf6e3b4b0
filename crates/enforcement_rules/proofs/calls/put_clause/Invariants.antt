use Rattle.std.proofs.Common.{◌≡◌, ◌++◌, take}
use Rattle.enforcement_rules.specs.CallTests.{taken_by_clause}
use Rattle.enforcement_rules.proofs.calls.put_clause.Given as goal

abbrev pub invariant-loop-conjunct : goal.invariant-loop-conjunct
invariant-loop-conjunct l = l.out ≡ l.fn.out ++ taken_by_clause l.program (take l.conjunct-index l.clause)
