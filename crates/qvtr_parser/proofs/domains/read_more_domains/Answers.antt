use Rattle.std.proofs.Common.{length, arith}
use Rattle.std.proofs.lemmas.Result.{err_from_is_err_and}
use Rattle.qvtr_parser.specs.Lists.{each_read, left}
use Rattle.qvtr_parser.specs.ScriptReadings.{begins_domain, domain_read}
use Rattle.qvtr_parser.proofs.NextLaws.{next_halts, next_read}
use Rattle.qvtr_parser.proofs.domains.read_more_domains.Goals as goal

pub returns-in_err-domain : goal.returns-in_err-domain
returns-in_err-domain c =
    let ts = c.args.tokens.now.lexemes in
    let p = err_from_is_err_and c.from_residual.result c.from_residual.ensures.1 in
    next_halts (begins_domain ts) (domain_read ts c.args.levels) (length ts) c.loop-step._step c.loop-step.domains c.loop-step.end c.in_err-domain.field-0.0 p.0 (each_read (begins_domain ts) (domain_read ts c.args.levels) (left ts c.args.at) c.args.domains c.args.at)
    c.from_residual.result (omega arith) (cc (c.begins_domain.ensures, c.if-not-begins_domain.false)) c.in_err-domain.ensures c.loop-step.invariant p.1 p.2

pub loop-step-preserved : goal.loop-step-preserved
loop-step-preserved c =
    let ts = c.args.tokens.now.lexemes in
    next_read (begins_domain ts) (domain_read ts c.args.levels) (length ts) c.loop-step._step c.loop-step.domains c.push.new.self c.loop-step.end c.in_ok-domain.next c.in_ok-domain.domain (each_read (begins_domain ts) (domain_read ts c.args.levels) (left ts c.args.at) c.args.domains c.args.at)
    (omega arith) (cc (c.begins_domain.ensures, c.if-not-begins_domain.false)) c.in_ok-domain.ensures (cc c.in_ok-push.ensures.ok) c.loop-step.invariant
