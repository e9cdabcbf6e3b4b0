use Rattle.std.proofs.Common.{sym, ◌∙◌}
use Rattle.template_match.specs.Prepared.{problem_in}
use Rattle.template_match.proofs.ChoiceLaws.{partner_is}
use Rattle.template_match.proofs.choosing.partner_choice.Goals as goal

pub returns-in-Some-datum_holders : goal.returns-in-Some-datum_holders
returns-in-Some-datum_holders c =
    partner_is (problem_in c.args.prepared.now) c.args.binding.now.values c.requires.prepared.posed c.requires.prepared.places c.args.link.now c.in-Some.datum.now
    c.in-Some-datum_holders.candidates c.choice.result c.requires.link (sym c.is_open.ensures ∙ c.if-not-is_open.false) (sym c.in-Some.ensures)
    c.in-Some-datum_holders.ensures c.choice.ensures.variable c.choice.ensures.candidates c.choice.ensures.size
