use Rattle.std.proofs.Common.{◌≡◌, ◌-◌, ◌≤◌, nat_lt, length, get_or, ap, sym, ◌∙◌, arith}
use Rattle.std.specs.Char.{is_ascii_digit}
use Rattle.std.proofs.lemmas.List.Folds.{list_all_at}
use Rattle.ql_lex.specs.declared.limits.TheConstants.{MAX_INTEGER}
use Rattle.ql_lex.proofs.Laws.{decimal-over}
use Rattle.ql_lex.proofs.DigitLaws.{digits-step, value-step, digits-none, value-none, integer, no_digits, too_great}
use Rattle.ql_lex.proofs.unquoting.decimal_value.Goals as goal

pub loop-d-preserved : goal.loop-d-preserved
loop-d-preserved c =
    let ds = c.args.digits.now in
    let i = c.loop-d.d-index in (
      digits-step ds i (omega arith) (sym c.if-not-is_ascii_digit.ensures.value) ∙ c.loop-d.invariant.0,
      value-step ds i c.loop-d.value c.from-digit.result (omega arith) (c.from-digit.ensures ∙ c.saturating_sub.ensures) ∙ c.loop-d.invariant.1,
      omega arith,
    )

pub returns-then-not-is_ascii_digit : goal.returns-then-not-is_ascii_digit
returns-then-not-is_ascii_digit c =
    no_digits c.args.digits.now (list_all_at is_ascii_digit c.args.digits.now c.loop-d.d-index 0 (omega arith) (sym c.if-not-is_ascii_digit.ensures.value))

pub returns-then-value-digit : goal.returns-then-value-digit
returns-then-value-digit c =
    let ds = c.args.digits.now in
    let i = c.loop-d.d-index in
    let digit : c.from-digit.result ≡ get_or ds i 0 - 48 = c.from-digit.ensures ∙ c.saturating_sub.ensures in
    too_great ds (ap (nat_lt MAX_INTEGER) (sym c.loop-d.invariant.1) ∙ decimal-over ds i c.loop-d.value (omega arith) (omega (arith, digit)))

pub returns : goal.returns
returns c =
    let ds = c.args.digits.now in
    let i = c.loop-d.d-index in
    let none : length ds ≤ i = omega arith in
    (integer ds c.loop-d.value (sym c.loop-d.invariant.0 ∙ digits-none ds i none) (sym c.loop-d.invariant.1 ∙ value-none ds i c.loop-d.value none) c.loop-d.invariant.2, c.loop-d.invariant.2)
