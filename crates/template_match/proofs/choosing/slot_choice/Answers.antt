use Rattle.std.proofs.Common.{sym, ap, ◌∙◌}
use Rattle.template_match.specs.Prepared.{problem_in}
use Rattle.template_match.specs.Search.{setting_in, data_in}
use Rattle.template_match.proofs.ChoiceLaws.{slot_is}
use Rattle.template_match.proofs.choosing.slot_choice.Goals as goal

pub returns-in-Some-clause-some : goal.returns-in-Some-clause-some
returns-in-Some-clause-some c =
    let p = problem_in c.args.prepared.now in
    slot_is p c.args.binding.now.values c.requires.prepared.posed c.requires.prepared.places c.args.link.now c.in-Some.holder.now c.choice.result c.requires.link
    (sym c.is_open.ensures ∙ c.if-not-is_open.false) (sym c.in-Some.ensures) c.choice.ensures.variable
    (ap (data_in (setting_in p)) c.choice.ensures.candidates ∙ c.slot_of.ensures (setting_in p)) c.choice.ensures.size
