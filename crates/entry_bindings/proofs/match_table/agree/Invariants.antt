use Rattle.std.proofs.Common.{◌≡◌, drop}
use Rattle.entry_bindings.specs.Joins.{agree}
use Rattle.entry_bindings.proofs.match_table.agree.Given as goal

abbrev pub invariant-loop-i : goal.invariant-loop-i
invariant-loop-i l = agree (drop l.i l.given) (drop l.i l.roots) ≡ agree l.given l.roots
