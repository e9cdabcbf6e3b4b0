use Rattle.std.proofs.Common.{length, arith, []}
use Rattle.qvtr_parser.specs.Lists.{each_read, left}
use Rattle.qvtr_parser.specs.ScriptReadings.{begins_declaration, declaration_read}
use Rattle.qvtr_parser.proofs.NextLaws.{next_read}
use Rattle.qvtr_parser.proofs.scripts.read_each_declaration.Goals as goal

pub loop-step-preserved : goal.loop-step-preserved
loop-step-preserved c =
    let ts = c.args.tokens.now.lexemes in
    next_read (begins_declaration ts) (declaration_read ts c.args.levels) (length ts) c.loop-step._step c.loop-step.declarations c.push.new.self c.loop-step.end c.in_ok-declaration.next c.in_ok-declaration.declaration (each_read (begins_declaration ts) (declaration_read ts c.args.levels) (left ts c.args.at) [] c.args.at)
    (omega arith) (cc (c.begins_declaration.ensures, c.if-not-begins_declaration.false)) c.in_ok-declaration.ensures (cc c.in_ok-push.ensures.ok) c.loop-step.invariant
