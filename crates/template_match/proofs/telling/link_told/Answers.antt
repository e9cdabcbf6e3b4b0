use Rattle.template_match.specs.Prepared.{problem_in}
use Rattle.template_match.proofs.telling.link_told.Goals as goal

pub returns-in-Some : goal.returns-in-Some
returns-in-Some c = c.told_choice.ensures (problem_in c.args.prepared.now) c.args.binding.now.values c.link_choice.ensures.some
