use Rattle.std.proofs.Common.{length}
use Rattle.xmi_text.specs.Reading.{state_of, marks_from}
use Rattle.xmi_text.proofs.reading.Reached.{marks_of-append}
use Rattle.xmi_text.proofs.laws.marks_stay.Goals as goal

pub returns : goal.returns
returns c bytes more = (marks_from (length bytes) (state_of bytes) more, marks_of-append bytes more)
