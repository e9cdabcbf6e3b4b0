use Rattle.std.proofs.Common.{ap}
use Rattle.template_match.specs.Prepared.{problem_in}
use Rattle.template_match.specs.Search.{setting_in, data_in}
use Rattle.template_match.proofs.ChoiceLaws.{rows_is}
use Rattle.template_match.proofs.join_choosing.rows_choice.Goals as goal

pub returns : goal.returns
returns c =
    let p = problem_in c.args.prepared.now in
    rows_is p c.args.binding.now.values c.requires.prepared.posed c.requires.prepared.places c.args.join.now c.args.column c.args.variable c.args.numbers.now c.choice.result
    c.requires.join c.requires.column c.requires.opens c.requires.rows c.choice.ensures.variable
    (ap (data_in (setting_in p)) c.choice.ensures.candidates) c.choice.ensures.size
