use Rattle.object_tables.proofs.ConditionLemmas.{AreApart}
use Rattle.object_tables.proofs.model.contents.are_distinct.Given as goal

-- each value so far differs from all that stand behind it
abbrev pub invariant-loop-i : goal.invariant-loop-i
invariant-loop-i l = AreApart l.values l.i
