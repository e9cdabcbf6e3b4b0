use Rattle.std.proofs.Common.{◌≡◌, drop}
use Rattle.std.specs.Cmp.Lexicographic.{slice_cmp}
use Rattle.entry_bindings.specs.MatchKeys.{root_order}
use Rattle.entry_bindings.proofs.match_key.roots_order.Given as goal

abbrev pub invariant-loop-i : goal.invariant-loop-i
invariant-loop-i l = slice_cmp root_order (drop l.i l.ones) (drop l.i l.others) ≡ slice_cmp root_order l.ones l.others
