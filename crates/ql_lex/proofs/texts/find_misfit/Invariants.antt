use Rattle.std.proofs.Common.{◌≡◌, false, drop}
use Rattle.ql_lex.specs.Forms.{misfit_from}
use Rattle.ql_lex.proofs.texts.find_misfit.Given as goal

abbrev pub invariant-loop-i : goal.invariant-loop-i
invariant-loop-i l = misfit_from l.i l.escaped (drop l.i l.inside) ≡ misfit_from 0 false l.inside
