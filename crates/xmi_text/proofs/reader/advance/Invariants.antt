use Rattle.std.proofs.Common.{ℕ, ◌-◌, ◌≤◌, length}
use Rattle.xmi_text.specs.Reading.{Reached}
use Rattle.xmi_text.proofs.reader.advance.Given as goal

abbrev pub invariant-loop-at : goal.invariant-loop-at
invariant-loop-at l = record {
  within : l.at ≤ length l.bytes;
  reached : (given : ℕ) → Reached l.bytes l.fn.at given l.fn.state → Reached l.bytes l.at given l.state;
}

abbrev pub decreases-loop-at : goal.decreases-loop-at
decreases-loop-at l = length l.bytes - l.at
