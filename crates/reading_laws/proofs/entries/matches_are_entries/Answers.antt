use Rattle.reading_laws.proofs.EntryClosed.{ground}
use Rattle.reading_laws.proofs.EntryReads.{top_entry, called_entry}
use Rattle.reading_laws.proofs.entries.matches_are_entries.Goals as goal

pub returns-clause-top : goal.returns-clause-top
returns-clause-top c = λ metas program sources models m terms number over reading among met s place rel top b source.
    let e = top_entry metas program sources models m terms number (ground metas program sources models m terms number over reading among met) s place rel top b source in (e.b, e.reads, e.entry)

pub returns-clause-called : goal.returns-clause-called
returns-clause-called c = λ metas program sources models m terms number over reading among met s e is from within rel found roots reads b source.
    let f = called_entry metas program sources models m terms number (ground metas program sources models m terms number over reading among met) s e is from within rel found roots reads b source in
    (f.b, f.reads, f.entry)
