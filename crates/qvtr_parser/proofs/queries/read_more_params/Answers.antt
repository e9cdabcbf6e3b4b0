use Rattle.std.proofs.Common.{length, arith}
use Rattle.std.proofs.lemmas.Result.{err_from_is_err_and}
use Rattle.qvtr_parser.specs.ScriptReadings.{param_read}
use Rattle.qvtr_parser.specs.Lists.{behind_sign, comma_at, more_read}
use Rattle.qvtr_parser.proofs.NextLaws.{next_halts, next_read}
use Rattle.qvtr_parser.proofs.queries.read_more_params.Goals as goal

pub returns-in_err-param : goal.returns-in_err-param
returns-in_err-param c =
    let ts = c.args.tokens.now.lexemes in
    let p = err_from_is_err_and c.from_residual.result c.from_residual.ensures.1 in
    next_halts (comma_at ts) (behind_sign (param_read ts c.args.levels)) (length ts) c.loop-step._step c.loop-step.params c.loop-step.end c.in_err-param.field-0.0 p.0 (more_read ts (param_read ts c.args.levels) c.args.params c.args.at)
    c.from_residual.result (omega arith) (cc (c.is_sign_at.ensures.stands, c.if-not-is_sign_at.false)) c.in_err-param.ensures c.loop-step.invariant p.1 p.2

pub loop-step-preserved : goal.loop-step-preserved
loop-step-preserved c =
    let ts = c.args.tokens.now.lexemes in
    next_read (comma_at ts) (behind_sign (param_read ts c.args.levels)) (length ts) c.loop-step._step c.loop-step.params c.push.new.self c.loop-step.end c.in_ok-param.next c.in_ok-param.param (more_read ts (param_read ts c.args.levels) c.args.params c.args.at)
    (omega arith) (cc (c.is_sign_at.ensures.stands, c.if-not-is_sign_at.false)) c.in_ok-param.ensures (cc c.in_ok-push.ensures.ok) c.loop-step.invariant
