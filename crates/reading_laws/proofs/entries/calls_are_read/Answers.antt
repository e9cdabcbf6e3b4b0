use Rattle.reading_laws.proofs.EntryClosed.{ground}
use Rattle.reading_laws.proofs.EntryCalls.{when_reads, where_reads}
use Rattle.reading_laws.proofs.entries.calls_are_read.Goals as goal

pub returns-clause-whens : goal.returns-clause-whens
returns-clause-whens c = λ metas program sources models m terms number over reading among met e rel is found b reads.
    when_reads metas program sources models m terms number (ground metas program sources models m terms number over reading among met) e rel is found b reads

pub returns-clause-wheres : goal.returns-clause-wheres
returns-clause-wheres c = λ metas program sources models m terms number over reading among met e rel is found b g reads target made.
    where_reads metas program sources models m terms number (ground metas program sources models m terms number over reading among met) e rel is found b g reads target made
