use Rattle.std.proofs.Common.{length, arith}
use Rattle.std.proofs.lemmas.Result.{err_from_is_err_and}
use Rattle.ocl_parser.specs.Readings.{name_read}
use Rattle.qvtr_parser.specs.Lists.{behind_sign, comma_at, more_read}
use Rattle.qvtr_parser.proofs.NextLaws.{next_halts, next_read}
use Rattle.qvtr_parser.proofs.names.read_more_names.Goals as goal

pub returns-in_err-name : goal.returns-in_err-name
returns-in_err-name c =
    let ts = c.args.tokens.now.lexemes in
    let p = err_from_is_err_and c.from_residual.result c.from_residual.ensures.1 in
    next_halts (comma_at ts) (behind_sign (name_read ts)) (length ts) c.loop-step._step c.loop-step.names c.loop-step.end c.in_err-name.field-0.0 p.0 (more_read ts (name_read ts) c.args.names c.args.at)
    c.from_residual.result (omega arith) (cc (c.is_sign_at.ensures.stands, c.if-not-is_sign_at.false)) c.in_err-name.ensures c.loop-step.invariant p.1 p.2

pub loop-step-preserved : goal.loop-step-preserved
loop-step-preserved c =
    let ts = c.args.tokens.now.lexemes in
    next_read (comma_at ts) (behind_sign (name_read ts)) (length ts) c.loop-step._step c.loop-step.names c.push.new.self c.loop-step.end c.in_ok-name.next c.in_ok-name.name (more_read ts (name_read ts) c.args.names c.args.at)
    (omega arith) (cc (c.is_sign_at.ensures.stands, c.if-not-is_sign_at.false)) c.in_ok-name.ensures (cc c.in_ok-push.ensures.ok) c.loop-step.invariant
