use Rattle.reading_laws.proofs.MeetingEquations.{equations_hold}
use Rattle.reading_laws.proofs.MeetingTotal.{all_known}
use Rattle.reading_laws.proofs.MeetingTargets.{target_met}
use Rattle.reading_laws.proofs.meeting.entries_meet_their_targets.Goals as goal

pub returns : goal.returns
returns c = λ metas program sources models m terms number over reading place rel found direction roots b source own met among entry all c g reads made.
    target_met metas program sources models m terms number rel roots b c g (record {
      over = over;
      reading = reading;
      place = place;
      found = found;
      direction = direction;
      source = source;
      own = own;
      among = among;
      met = met;
      reads = reads;
      made = made;
      equations = equations_hold metas program sources over.over_sources over.enforceable place rel found direction roots b source own;
      total = all_known metas program sources models m over place rel found direction roots b source own met;
    }) entry all
