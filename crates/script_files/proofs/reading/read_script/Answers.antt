use Rattle.std.proofs.lemmas.Result.{err_from_is_err_and}
use Rattle.script_files.proofs.ScriptLaws.{only_answered, only_spelled, parsed_told}
use Rattle.script_files.proofs.reading.read_script.Goals as goal

pub returns-in_err-tokens-clause-only : goal.returns-in_err-tokens-clause-only
returns-in_err-tokens-clause-only c s p =
    let q = err_from_is_err_and c.from_residual.result c.from_residual.ensures.1 in
    rw (q.1, q.2) (only_spelled c.args.bytes.now s c.in_err-tokens.field-0.0 p c.in_err-tokens.ensures.fault)

pub returns-clause-only : goal.returns-clause-only
returns-clause-only c s p =
    only_answered c.parsed.result c.args.bytes.now
    (parsed_told c.parsed.result c.args.bytes.now c.in_ok-tokens.tokens c.in_ok-tokens.ensures.ok c.in_ok-tokens.ensures.end c.parsed.ensures.fault) s p
