use Rattle.std.proofs.Common.{◌≡◌, drop}
use Rattle.std.specs.List.{list_all}
use Rattle.enforcement_rules.specs.PatternTests.{is_settled_conjunct}
use Rattle.enforcement_rules.proofs.patterns.are_settled_conjuncts.Given as goal

abbrev pub invariant-loop-conjunct : goal.invariant-loop-conjunct
invariant-loop-conjunct l = list_all (is_settled_conjunct l.task.rel.now l.known) (drop l.conjunct-index l.conjuncts) ≡ list_all (is_settled_conjunct l.task.rel.now l.known) l.conjuncts
