use Rattle.std.proofs.Common.{sym, ◌∙◌, ap, arith, drop, ◌+◌, Some}
use Rattle.ql_lex.specs.Forms.{misfit_from, begins_misfit}
use Rattle.ql_lex.proofs.Laws.{misfit_from-goes, misfit_from-ends, misfit_from-none}
use Rattle.ql_lex.proofs.texts.find_misfit.Goals as goal

pub returns-then-begins_misfit-clause-value : goal.returns-then-begins_misfit-clause-value
returns-then-begins_misfit-clause-value c =
    ap (λ k. Some k) c.misfit_place.ensures.value
    ∙ sym (misfit_from-ends c.args.inside.now c.loop-i.i c.loop-i.escaped (omega arith) (ap (begins_misfit c.loop-i.escaped) (sym c.bytes_behind.ensures) ∙ sym c.begins_misfit.ensures ∙ c.if-begins_misfit.true)) ∙ c.loop-i.invariant

pub loop-i-preserved : goal.loop-i-preserved
loop-i-preserved c =
    ap (λ e. misfit_from (c.loop-i.i + 1) e (drop (c.loop-i.i + 1) c.args.inside.now)) c.escapes-escaped.ensures
    ∙ sym (misfit_from-goes c.args.inside.now c.loop-i.i c.loop-i.escaped (omega arith) (ap (begins_misfit c.loop-i.escaped) (sym c.bytes_behind.ensures) ∙ sym c.begins_misfit.ensures ∙ c.if-begins_misfit.false)) ∙ c.loop-i.invariant

pub returns-clause-value : goal.returns-clause-value
returns-clause-value c = sym (misfit_from-none c.args.inside.now c.loop-i.i c.loop-i.escaped (omega arith)) ∙ c.loop-i.invariant
