use Rattle.std.proofs.Common.{◌≡◌, drop}
use Rattle.std.specs.List.{list_any}
use Rattle.enforcement_rules.specs.ExpressionTests.{conjunct_touches}
use Rattle.enforcement_rules.proofs.expressions.clause_touches.Given as goal

abbrev pub invariant-loop-conjunct : goal.invariant-loop-conjunct
invariant-loop-conjunct l = let p = conjunct_touches l.task.program.now l.task.rel.now l.task.meta l.task.readers.now in list_any p (drop l.conjunct-index l.clause) ≡ list_any p l.clause
