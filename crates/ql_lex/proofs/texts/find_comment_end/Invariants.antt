use Rattle.std.proofs.Common.{◌≡◌, false, drop}
use Rattle.ql_lex.specs.Forms.{comment_end}
use Rattle.ql_lex.proofs.texts.find_comment_end.Given as goal

abbrev pub invariant-loop-i : goal.invariant-loop-i
invariant-loop-i l = comment_end l.i l.star (drop l.i l.bytes) ≡ comment_end 0 false l.bytes
