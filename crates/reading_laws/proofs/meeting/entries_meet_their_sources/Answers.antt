use Rattle.reading_laws.proofs.SourceWay.{source_met}
use Rattle.reading_laws.proofs.meeting.entries_meet_their_sources.Goals as goal

pub returns : goal.returns
returns c = source_met
