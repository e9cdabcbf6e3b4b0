use Rattle.std.proofs.Common.{◌≡◌, drop}
use Rattle.std.specs.List.{list_all}
use Rattle.enforcement_rules.specs.CallTests.{is_right_call}
use Rattle.enforcement_rules.proofs.calls.are_right_calls.Given as goal

abbrev pub invariant-loop-conjunct : goal.invariant-loop-conjunct
invariant-loop-conjunct l = list_all (is_right_call l.program) (drop l.conjunct-index l.conjuncts) ≡ list_all (is_right_call l.program) l.conjuncts
