use Rattle.std.proofs.Common.{◌≡◌, ◌++◌}
use Rattle.xmi_text.specs.Writing.{escaped}
use Rattle.xmi_text.proofs.writer.escape.Given as goal

abbrev pub invariant-loop-c : goal.invariant-loop-c
invariant-loop-c l = l.piece ≡ l.fn.piece ++ escaped l.yielded
