use Rattle.std.proofs.Common.{◌≡◌, ◌≤◌, drop}
use Rattle.ql_lex.specs.Forms.{decimal}
use Rattle.ql_lex.specs.declared.limits.TheConstants.{MAX_INTEGER}
use Rattle.ql_lex.proofs.forms.is_big.Given as goal

abbrev pub invariant-loop-d : goal.invariant-loop-d
invariant-loop-d l = (decimal l.value (drop l.d-index l.digits) ≡ decimal 0 l.digits) × (l.value ≤ MAX_INTEGER)
