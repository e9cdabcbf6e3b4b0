use Rattle.std.proofs.Common.{length, subst, arith}
use Rattle.std.proofs.lemmas.Result.{err_from_is_err_and}
use Rattle.ocl_parser.specs.Readings.{Gives, Read}
use Rattle.qv_syntax.specs.declared.script.TemplateTree.{TemplateTree}
use Rattle.qvtr_parser.specs.Lists.{behind_sign, comma_at, more_read}
use Rattle.qvtr_parser.specs.ScriptReadings.{item_read}
use Rattle.qvtr_parser.proofs.TemplateLaws.{unrolled}
use Rattle.qvtr_parser.proofs.NextLaws.{next_halts, next_read}
use Rattle.qvtr_parser.proofs.templates.+read_template.Goals as goal

pub read_more_items-returns-in_err-item : goal.read_more_items-returns-in_err-item
read_more_items-returns-in_err-item t c =
    let ts = c.args.tokens.now.lexemes in
    let p = err_from_is_err_and c.from_residual.result c.from_residual.ensures.1 in
    next_halts (comma_at ts) (behind_sign (item_read ts c.args.levels)) (length ts) c.loop-step._step c.loop-step.items c.loop-step.end c.in_err-item.field-0.0 p.0 (more_read ts (item_read ts c.args.levels) c.args.items c.args.at)
    c.from_residual.result (omega arith) (cc (c.is_sign_at.ensures.stands, c.if-not-is_sign_at.false)) c.in_err-item.ensures c.loop-step.invariant p.1 p.2

pub read_more_items-loop-step-preserved : goal.read_more_items-loop-step-preserved
read_more_items-loop-step-preserved t c =
    let ts = c.args.tokens.now.lexemes in
    next_read (comma_at ts) (behind_sign (item_read ts c.args.levels)) (length ts) c.loop-step._step c.loop-step.items c.push.new.self c.loop-step.end c.in_ok-item.next c.in_ok-item.item (more_read ts (item_read ts c.args.levels) c.args.items c.args.at)
    (omega arith) (cc (c.is_sign_at.ensures.stands, c.if-not-is_sign_at.false)) c.in_ok-item.ensures (cc c.in_ok-push.ensures.ok) c.loop-step.invariant

pub read_template-returns : goal.read_template-returns
read_template-returns t c = subst (λ (m : Read TemplateTree). Gives c.read_braces.result m) (unrolled c.args.tokens.now.lexemes c.args.levels c.args.at) c.read_braces.ensures
