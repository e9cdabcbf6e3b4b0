use Rattle.std.proofs.Common.{◌≤◌, map, length, arith}
use Rattle.clap.specs.Lexer.{usize_max}
use Rattle.command_words.proofs.ReadingLaws.{read_is, usage_is}
use Rattle.command_words.proofs.ValueLaws.{error_weaker}
use Rattle.command_words.proofs.reading.read_arguments.Goals as goal

pub returns-in_err-matches-clause-usage : goal.returns-in_err-matches-clause-usage
returns-in_err-matches-clause-usage c =
    let most : length c.args.words.now ≤ usize_max = omega arith in
    error_weaker c.from_residual-in_err-matches.result _ _ c.from_residual-in_err-matches.ensures.1 (λ cause is.
    usage_is c.args.synopsis c.args.words.now most _ c.in_ok-command_of.ensures c.in_err-matches.field-0.0 cause c.in_err-matches.ensures.kinds is)

pub returns-clause-ok : goal.returns-clause-ok
returns-clause-ok c =
    let most : length c.args.words.now ≤ usize_max = omega arith in
    read_is c.args.synopsis c.args.words.now most _ c.in_ok-command_of.ensures c.in_ok-matches.matches (map (λ s. s.now) c.names.result.now) _
    c.in_ok-matches.ensures.matches c.in_ok-matches.ensures.kinds c.names.ensures c.in_ok-values_of.ensures
