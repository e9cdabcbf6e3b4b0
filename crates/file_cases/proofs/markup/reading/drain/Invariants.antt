use Rattle.std.proofs.Common.{◌≡◌}
use Rattle.file_cases.proofs.markup.reading.drain.Given as goal

abbrev pub invariant-marks : goal.invariant-marks
invariant-marks l = l.reader.finished ≡ l.fn.reader.finished
