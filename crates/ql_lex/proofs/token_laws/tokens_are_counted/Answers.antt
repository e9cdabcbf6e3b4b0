use Rattle.ql_lex.proofs.LexLaws.{lexed_is}
use Rattle.ql_lex.proofs.token_laws.tokens_are_counted.Goals as goal

pub returns : goal.returns
returns c = λ text ls. lexed_is text ls
