use Rattle.std.proofs.Common.{subst}
use Rattle.std.specs.Prelude.{Contains}
use Rattle.std.proofs.lemmas.Result.{IfOk-weaker}
use Rattle.template_match.specs.Prepared.{problem_in}
use Rattle.template_match.proofs.PruneLaws.{shape_barren}
use Rattle.template_match.proofs.pruning.shape_part_may_hold.Goals as goal

pub returns-in-Some : goal.returns-in-Some
returns-in-Some c =
    IfOk-weaker c.shape_may_be.result _ _
    (λ m. shape_barren (problem_in c.args.prepared.now) c.args.binding.now.values c.requires.prepared.posed c.requires.prepared.places c.in-Some.shape.now m
    (subst (λ all. Contains all c.in-Some.shape.now) c.requires.prepared.shapes c.in-Some.ensures))
    c.shape_may_be.ensures
