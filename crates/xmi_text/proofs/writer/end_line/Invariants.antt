use Rattle.std.proofs.Common.{◌≡◌, ◌*◌, ◌∷◌, ◌++◌, replicate}
use Rattle.xmi_text.proofs.writer.end_line.Given as goal

abbrev pub invariant-loop-level : goal.invariant-loop-level
invariant-loop-level l = l.piece ≡ l.fn.piece ++ 10 ∷ replicate (2 * l._level) 32
