use Rattle.std.proofs.Common.{take}
use Rattle.std.specs.Prelude.{All}
use Rattle.enforce_steps.specs.Premises.{IsNumbered}
use Rattle.enforce_steps.proofs.counting.few_in_each.Given as goal

abbrev pub invariant-loop-rel : goal.invariant-loop-rel
invariant-loop-rel l = All IsNumbered (take l.rel-index l.rels)
