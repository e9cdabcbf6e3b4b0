use Rattle.ql_lex.specs.Forms.{is_reserved}
use Rattle.ql_lex.proofs.names.is_reserved.Goals as goal

pub returns : goal.returns
unfolding is_reserved
returns c = c.is_listed.ensures
