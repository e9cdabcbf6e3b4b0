use Rattle.template_match.specs.Prepared.{problem_in}
use Rattle.template_match.proofs.telling.asked_told.Goals as goal

pub returns-in_ok-asked_choice-in-Some : goal.returns-in_ok-asked_choice-in-Some
returns-in_ok-asked_choice-in-Some c = c.told_choice.ensures (problem_in c.args.prepared.now) c.args.binding.now.values c.in_ok-asked_choice-in-Some.ensures
