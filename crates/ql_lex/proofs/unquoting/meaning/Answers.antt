use Rattle.std.proofs.Common.{ap, sym}
use Rattle.ql_lex.specs.Unquoting.{meaning}
use Rattle.ql_lex.proofs.unquoting.meaning.Goals as goal

pub returns-in-n : goal.returns-in-n
returns-in-n c = ap meaning (sym c.in-n.is)
