use Rattle.std.proofs.Common.{length, arith}
use Rattle.qvtr_parser.specs.ScriptReadings.{all_vars_read, is_name_at, vars_read}
use Rattle.qvtr_parser.proofs.NextLaws.{next_read}
use Rattle.qvtr_parser.proofs.relations.read_all_vars.Goals as goal

pub loop-step-preserved : goal.loop-step-preserved
loop-step-preserved c =
    let ts = c.args.tokens.now.lexemes in
    next_read (is_name_at ts) (vars_read ts c.args.levels) (length ts) c.loop-step._step c.loop-step.all c.push.new.self c.loop-step.end c.in_ok-vars.next c.in_ok-vars.vars (all_vars_read ts c.args.levels c.args.at)
    (omega arith) (cc (c.is_name_at.ensures.stands, c.if-not-is_name_at.false)) c.in_ok-vars.ensures (cc c.in_ok-push.ensures.ok) c.loop-step.invariant
