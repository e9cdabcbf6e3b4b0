use Rattle.std.proofs.Common.{◌≤◌, ℕ, [], length, ap, ◌∙◌, arith}
use Rattle.ocl_parser.specs.Runs.{ended_by, run}
use Rattle.ocl_parser.proofs.RunLaws.{reads_so, no_token}
use Rattle.ocl_parser.proofs.parsing.end.Goals as goal

pub returns-in-Ok : goal.returns-in-Ok
returns-in-Ok c =
    let ts = c.args.tokens.now.lexemes in
    let old = c.args.reading.now in
    let behind : length ts ≤ c.len-at.result = omega (arith, c.len-at.ensures) in
    reads_so (ended_by c.in-Ok.action c.len-at.result) (run c.args._levels [] old.stack old.state (length ts)) c.judge_end.result
    (no_token c.args._levels ts c.len-at.result old.stack c.next.new.reading.stack old.state c.in-Ok.action behind (record { made = c.in-Ok.ensures })
    ∙ ap (λ (n : ℕ). run c.args._levels [] old.stack old.state n) c.len-at.ensures)
    c.judge_end.ensures
