use Rattle.std.proofs.Common.{◌+◌, drop}
use Rattle.ocl_parser.specs.Runs.{run}
use Rattle.ocl_parser.specs.Answers.{made, step_answer}
use Rattle.ocl_parser.proofs.RunLaws.{one_token, passed_so}
use Rattle.ocl_parser.proofs.parsing.pass.Goals as goal

pub returns-in-Ok : goal.returns-in-Ok
returns-in-Ok c =
    let ts = c.args.tokens.now.lexemes in
    let old = c.args.reading.now in
    passed_so c.args.tokens.now c.args.levels (c.args.at + 1) c.judge.new.reading.stack c.judge.new.reading.state
    (step_answer c.args.levels (drop (c.args.at + 1) ts) c.args.at (made c.next.new.reading.stack c.in-Ok.action)) (run c.args.levels (drop c.args.at ts) old.stack old.state c.args.at) c.judge.result
    (one_token c.args.levels ts c.args.at old.stack c.next.new.reading.stack old.state c.in-Ok.action c.requires (record { made = c.in-Ok.ensures }))
    c.judge.ensures
