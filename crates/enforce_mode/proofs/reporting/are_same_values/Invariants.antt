use Rattle.std.proofs.Common.{◌≡◌, ◌≤◌, length, drop}
use Rattle.std.specs.Cmp.Lexicographic.{pointwise}
use Rattle.qvtr_semantics.specs.Data.{same_value}
use Rattle.enforce_mode.proofs.reporting.are_same_values.Given as goal

abbrev pub invariant-loop-i : goal.invariant-loop-i
invariant-loop-i l = record {
  within : l.i ≤ length l.other;
  same : pointwise same_value (drop l.i l.one) (drop l.i l.other) ≡ pointwise same_value l.one l.other;
}
