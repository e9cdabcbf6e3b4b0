use Rattle.std.proofs.Common.{◌≡◌, false}
use Rattle.file_cases.proofs.markup.reading.feed.Given as goal

abbrev pub invariant-pieces : goal.invariant-pieces
invariant-pieces l = l.reader.finished ≡ false
