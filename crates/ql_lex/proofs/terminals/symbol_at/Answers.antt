use Rattle.ql_lex.proofs.TableLaws.{terminal_some}
use Rattle.ql_lex.proofs.terminals.symbol_at.Goals as goal

pub returns-in_ok-symbol-in-Some : goal.returns-in_ok-symbol-in-Some
returns-in_ok-symbol-in-Some c = terminal_some _ c.in-Some.token c.in-Some.text.now _ c.in-Some.ensures.token c.in_ok-symbol-in-Some.ensures
