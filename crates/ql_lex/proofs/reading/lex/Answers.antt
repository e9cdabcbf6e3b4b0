use Rattle.ql_lex.proofs.LexLaws.{tokens_given, only_given, fault_given}
use Rattle.ql_lex.proofs.reading.lex.Goals as goal

pub returns-clause-tokens : goal.returns-clause-tokens
returns-clause-tokens c = tokens_given c.args.text.now c.read_tokens.result c.read_tokens.ensures.lexed

pub returns-clause-only : goal.returns-clause-only
returns-clause-only c = λ ls l. only_given c.args.text.now c.read_tokens.result ls c.read_tokens.ensures.lexed l

pub returns-clause-fault : goal.returns-clause-fault
returns-clause-fault c = fault_given c.args.text.now c.read_tokens.result c.read_tokens.ensures.lexed
