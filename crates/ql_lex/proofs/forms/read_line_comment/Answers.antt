use Rattle.std.proofs.Common.{arith, length, ap, length-drop, not}
use Rattle.std.specs.Prelude.{◌==◌}
use Rattle.std.proofs.lemmas.List.Sums.{prefix_len-le-length}
use Rattle.ql_lex.proofs.forms.read_line_comment.Goals as goal

pub overflow_add-line_len : goal.overflow_add-line_len
overflow_add-line_len c =
    omega (arith, c.line_len.ensures, prefix_len-le-length (λ b. not (b == 10)) c.bytes_behind.result.now, c.bytes_behind.type_inv.1)

pub returns-clause-within : goal.returns-clause-within
returns-clause-within c =
    rw c.make_nothing.ensures (
      omega arith,
      omega (arith, c.line_len.ensures, prefix_len-le-length (λ b. not (b == 10)) c.bytes_behind.result.now, ap length c.bytes_behind.ensures, length-drop 2 c.args.bytes.now),
    )
