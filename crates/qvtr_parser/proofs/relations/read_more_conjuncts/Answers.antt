use Rattle.std.proofs.Common.{length, arith}
use Rattle.std.proofs.lemmas.Result.{err_from_is_err_and}
use Rattle.qvtr_parser.specs.Lists.{each_read, left}
use Rattle.qvtr_parser.specs.ScriptReadings.{conjunct_read, goes_on}
use Rattle.qvtr_parser.proofs.NextLaws.{next_halts, next_read}
use Rattle.qvtr_parser.proofs.relations.read_more_conjuncts.Goals as goal

pub returns-in_err-expr : goal.returns-in_err-expr
returns-in_err-expr c =
    let ts = c.args.tokens.now.lexemes in
    let p = err_from_is_err_and c.from_residual.result c.from_residual.ensures.1 in
    next_halts (goes_on ts) (conjunct_read ts c.args.levels) (length ts) c.loop-step._step c.loop-step.exprs c.loop-step.end c.in_err-expr.field-0.0 p.0 (each_read (goes_on ts) (conjunct_read ts c.args.levels) (left ts c.args.at) c.args.exprs c.args.at)
    c.from_residual.result (omega arith) (cc (c.goes_on.ensures.goes, c.if-not-goes_on.false)) c.in_err-expr.ensures c.loop-step.invariant p.1 p.2

pub loop-step-preserved : goal.loop-step-preserved
loop-step-preserved c =
    let ts = c.args.tokens.now.lexemes in
    next_read (goes_on ts) (conjunct_read ts c.args.levels) (length ts) c.loop-step._step c.loop-step.exprs c.push.new.self c.loop-step.end c.in_ok-expr.next c.in_ok-expr.expr (each_read (goes_on ts) (conjunct_read ts c.args.levels) (left ts c.args.at) c.args.exprs c.args.at)
    (omega arith) (cc (c.goes_on.ensures.goes, c.if-not-goes_on.false)) c.in_ok-expr.ensures (cc c.in_ok-push.ensures.ok) c.loop-step.invariant
