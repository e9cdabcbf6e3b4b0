use Rattle.std.proofs.Common.{◌≡◌, ◌+◌, ◌-◌, ◌*◌, sym, ◌∙◌, ap, arith, drop, get_or, nat_lt}
use Rattle.ql_lex.specs.Forms.{decimal}
use Rattle.ql_lex.specs.declared.limits.TheConstants.{MAX_INTEGER}
use Rattle.ql_lex.proofs.Laws.{decimal-step, decimal-over, decimal-none}
use Rattle.ql_lex.proofs.forms.is_big.Goals as goal

pub returns-then-value-digit : goal.returns-then-value-digit
returns-then-value-digit c =
    let digit : c.from-digit.result ≡ get_or c.args.digits.now c.loop-d.d-index 0 - 48 = c.from-digit.ensures ∙ c.saturating_sub.ensures in
    sym (decimal-over c.args.digits.now c.loop-d.d-index c.loop-d.value (omega arith) (omega arith)) ∙ ap (nat_lt MAX_INTEGER) c.loop-d.invariant.0

pub loop-d-preserved : goal.loop-d-preserved
loop-d-preserved c =
    let digit : c.from-digit.result ≡ get_or c.args.digits.now c.loop-d.d-index 0 - 48 = c.from-digit.ensures ∙ c.saturating_sub.ensures in (
      ap (λ d. decimal (10 * c.loop-d.value + d) (drop (c.loop-d.d-index + 1) c.args.digits.now)) digit
          ∙ sym (decimal-step c.args.digits.now c.loop-d.d-index c.loop-d.value (omega arith)) ∙ c.loop-d.invariant.0,
      omega arith,
    )

pub returns : goal.returns
returns c = sym (decimal-none c.args.digits.now c.loop-d.d-index c.loop-d.value (omega arith) c.loop-d.invariant.1) ∙ ap (nat_lt MAX_INTEGER) c.loop-d.invariant.0
