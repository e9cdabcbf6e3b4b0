use Rattle.template_match.specs.Prepared.{problem_in}
use Rattle.template_match.proofs.PruneLaws.{join_barren}
use Rattle.template_match.proofs.pruning.join_part_may_hold.Goals as goal

pub returns-in-Some : goal.returns-in-Some
returns-in-Some c =
    join_barren (problem_in c.args.prepared.now) c.args.binding.now.values c.requires.prepared.posed c.requires.prepared.places c.in-Some.join.now c.may_join.result c.in-Some.ensures
    c.may_join.ensures
