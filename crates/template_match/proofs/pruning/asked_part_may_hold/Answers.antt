use Rattle.std.proofs.Common.{subst}
use Rattle.std.specs.Prelude.{Contains}
use Rattle.mof_metamodel.proofs.Facts.{contains_map}
use Rattle.template_match.specs.Asked.{asked_value}
use Rattle.std.proofs.lemmas.Result.{IfOk-weaker}
use Rattle.template_match.specs.Prepared.{problem_in}
use Rattle.template_match.proofs.PruneLaws.{asked_barren}
use Rattle.template_match.proofs.pruning.asked_part_may_hold.Goals as goal

pub returns-in-Some : goal.returns-in-Some
returns-in-Some c =
    IfOk-weaker c.asked_may_stand.result _ _
    (λ m. asked_barren (problem_in c.args.prepared.now) c.args.binding.now.values c.requires.prepared.posed c.requires.prepared.places (asked_value c.in-Some.asked.now) m
    (subst (λ ts. Contains ts (asked_value c.in-Some.asked.now)) c.requires.prepared.asked (contains_map asked_value c.args.prepared.now.asked.now c.in-Some.asked.now c.in-Some.ensures)))
    c.asked_may_stand.ensures
