use Rattle.std.proofs.Common.{◌-◌, length}
use Rattle.xmi_text.specs.Reading.{marks_of}
use Rattle.xmi_profile.proofs.ReadLaws.{Reads}
use Rattle.xmi_profile.proofs.reading.list_marks.Given as goal

abbrev pub invariant-loop-listing : goal.invariant-loop-listing
invariant-loop-listing l = Reads l.profile.meta.now l.profile.outside l.bytes l.reader l.listing

abbrev pub decreases-loop-listing : goal.decreases-loop-listing
decreases-loop-listing l = length (marks_of l.bytes) - l.reader.given
