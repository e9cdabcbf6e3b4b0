use Rattle.reading_laws.proofs.EntryTime.{all_met}
use Rattle.reading_laws.proofs.entries.called_entries_come_in_time.Goals as goal

pub returns : goal.returns
returns c = λ metas program sources formed chains none. all_met metas program formed sources chains.no_cycle chains.no_deep none
