use Rattle.std.proofs.Common.{◌≡◌, ◌≤◌, drop}
use Rattle.std.specs.List.{list_all}
use Rattle.std.specs.Char.{is_ascii_digit}
use Rattle.ql_lex.specs.declared.limits.TheConstants.{MAX_INTEGER}
use Rattle.ql_lex.specs.Forms.{decimal}
use Rattle.ql_lex.proofs.unquoting.decimal_value.Given as goal

abbrev pub invariant-loop-d : goal.invariant-loop-d
invariant-loop-d l = (list_all is_ascii_digit (drop l.d-index l.digits) ≡ list_all is_ascii_digit l.digits) × (decimal l.value (drop l.d-index l.digits) ≡ decimal 0 l.digits) × (l.value ≤ MAX_INTEGER)
