use Rattle.std.proofs.Common.{arith}
use Rattle.std.proofs.lemmas.List.Sums.{prefix_len-le-length}
use Rattle.mof_metamodel.specs.Characters.{is_blank}
use Rattle.ql_lex.proofs.Laws.{prefix_len-some}
use Rattle.ql_lex.proofs.forms.read_blanks.Goals as goal

pub returns-clause-within : goal.returns-clause-within
returns-clause-within c =
    rw c.make_nothing.ensures (
      omega (arith, c.blank_len.ensures, prefix_len-some is_blank c.args.bytes.now c.requires.some c.requires.begun),
      omega (arith, c.blank_len.ensures, prefix_len-le-length is_blank c.args.bytes.now),
    )
