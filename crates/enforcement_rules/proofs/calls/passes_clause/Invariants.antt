use Rattle.std.proofs.Common.{◌≡◌, drop}
use Rattle.std.specs.List.{list_all}
use Rattle.enforcement_rules.specs.CallTests.{passes_conjunct}
use Rattle.enforcement_rules.proofs.calls.passes_clause.Given as goal

abbrev pub invariant-loop-conjunct : goal.invariant-loop-conjunct
invariant-loop-conjunct l = let p = passes_conjunct l.task.metas.now l.task.program.now l.task.rel.now l.clause in list_all p (drop l.conjunct-index l.conjuncts) ≡ list_all p l.conjuncts
