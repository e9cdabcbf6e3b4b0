use Rattle.std.proofs.Common.{◌≡◌, drop}
use Rattle.entry_bindings.specs.Joins.{filled}
use Rattle.entry_bindings.proofs.joining.filled.Given as goal

abbrev pub invariant-loop-i : goal.invariant-loop-i
invariant-loop-i l = filled l.values.items (drop l.i l.given) (drop l.i l.roots) ≡ filled l.b l.given l.roots
