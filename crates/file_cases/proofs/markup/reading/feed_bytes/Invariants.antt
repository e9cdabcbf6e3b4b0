use Rattle.std.proofs.Common.{◌≡◌, false}
use Rattle.file_cases.proofs.markup.reading.feed_bytes.Given as goal

abbrev pub invariant-bytes : goal.invariant-bytes
invariant-bytes l = l.reader.finished ≡ false
