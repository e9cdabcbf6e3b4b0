use Rattle.template_match.proofs.JoinLaws.{told_join}
use Rattle.template_match.proofs.joins.may_numbers.Goals as goal

pub loop-number-init : goal.loop-number-init
loop-number-init c = told_join c.args.join.now c.args.binding.now.values c.args.numbers.now c.requires
