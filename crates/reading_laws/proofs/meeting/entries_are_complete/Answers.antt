use Rattle.reading_laws.proofs.MeetingEquations.{equations_hold}
use Rattle.reading_laws.proofs.MeetingTotal.{all_known}
use Rattle.reading_laws.proofs.meeting.entries_are_complete.Goals as goal

pub returns-clause-equations : goal.returns-clause-equations
returns-clause-equations c = equations_hold

pub returns-clause-values : goal.returns-clause-values
returns-clause-values c = all_known
