use Rattle.std.proofs.Common.{sym, ◌∙◌, ap, arith, drop, ◌+◌}
use Rattle.ql_lex.specs.Forms.{string_end}
use Rattle.ql_lex.proofs.Laws.{string_end-goes, string_end-ends, string_end-none}
use Rattle.ql_lex.proofs.texts.find_string_end.Goals as goal

pub returns-then-closes-clause-value : goal.returns-then-closes-clause-value
returns-then-closes-clause-value c =
    sym (string_end-ends c.args.bytes.now c.loop-i.i c.loop-i.escaped (omega arith) (sym c.closes.ensures ∙ c.if-closes.true)) ∙ c.loop-i.invariant

pub loop-i-preserved : goal.loop-i-preserved
loop-i-preserved c =
    ap (λ e. string_end (c.loop-i.i + 1) e (drop (c.loop-i.i + 1) c.args.bytes.now)) c.escapes-escaped.ensures
    ∙ sym (string_end-goes c.args.bytes.now c.loop-i.i c.loop-i.escaped (omega arith) (sym c.closes.ensures ∙ c.if-closes.false)) ∙ c.loop-i.invariant

pub returns-clause-value : goal.returns-clause-value
returns-clause-value c = sym (string_end-none c.args.bytes.now c.loop-i.i c.loop-i.escaped (omega arith)) ∙ c.loop-i.invariant
