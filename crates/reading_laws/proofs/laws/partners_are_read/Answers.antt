use Rattle.reading_laws.proofs.PartnerClosed.{read_closed, among_closed, scopes_closed}
use Rattle.reading_laws.proofs.laws.partners_are_read.Goals as goal

pub returns-clause-read : goal.returns-clause-read
returns-clause-read c = λ metas program sources models m terms number rel roots b c g h met. read_closed metas program sources models m terms number rel roots b c g h met

pub returns-clause-among : goal.returns-clause-among
returns-clause-among c = λ metas program sources models m terms number rel roots b c g h. among_closed metas program sources models m terms number rel roots b c g h

pub returns-clause-scopes : goal.returns-clause-scopes
returns-clause-scopes c = λ metas program sources models m terms number rel roots b c g h. scopes_closed metas program sources models m terms number rel roots b c g h
