use Rattle.std.proofs.Common.{arith}
use Rattle.ql_lex.specs.Forms.{front_width}
use Rattle.ql_lex.proofs.Laws.{width-some, width-within}
use Rattle.ql_lex.proofs.names.front_width.Goals as goal

pub returns-clause-some : goal.returns-clause-some
unfolding front_width
returns-clause-some c = omega (arith, c.decode.ensures.size, width-some c.args.bytes.now c.requires)

pub returns-clause-within : goal.returns-clause-within
unfolding front_width
returns-clause-within c = omega (arith, c.decode.ensures.size, width-within c.args.bytes.now c.requires)
