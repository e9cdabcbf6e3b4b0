use Rattle.std.proofs.lemmas.Result.{IfOk-weaker}
use Rattle.template_match.specs.Prepared.{problem_in}
use Rattle.template_match.proofs.PruneLaws.{link_barren}
use Rattle.template_match.proofs.pruning.link_part_may_hold.Goals as goal

pub returns-in-Some : goal.returns-in-Some
returns-in-Some c =
    IfOk-weaker c.link_may_hold.result _ _
    (λ m. link_barren (problem_in c.args.prepared.now) c.args.binding.now.values c.requires.prepared.posed c.requires.prepared.places c.in-Some.link.now m c.in-Some.ensures)
    c.link_may_hold.ensures
