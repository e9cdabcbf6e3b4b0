use Rattle.std.proofs.Common.{◌≡◌, false, drop}
use Rattle.ql_lex.specs.Forms.{string_end}
use Rattle.ql_lex.proofs.texts.find_string_end.Given as goal

abbrev pub invariant-loop-i : goal.invariant-loop-i
invariant-loop-i l = string_end l.i l.escaped (drop l.i l.bytes) ≡ string_end 0 false l.bytes
