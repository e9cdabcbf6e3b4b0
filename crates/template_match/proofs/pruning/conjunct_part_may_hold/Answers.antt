use Rattle.std.proofs.Common.{subst}
use Rattle.std.specs.Prelude.{Contains}
use Rattle.std.proofs.lemmas.Result.{IfOk-weaker}
use Rattle.template_match.specs.Prepared.{problem_in}
use Rattle.template_match.proofs.PruneLaws.{conjunct_barren}
use Rattle.template_match.proofs.pruning.conjunct_part_may_hold.Goals as goal

pub returns-in-Some : goal.returns-in-Some
returns-in-Some c =
    IfOk-weaker c.may_conjunct.result _ _
    (λ m. conjunct_barren (problem_in c.args.prepared.now) c.args.binding.now.values c.requires.prepared.posed c.requires.prepared.places c.in-Some.conjunct.now m
    (subst (λ all. Contains all c.in-Some.conjunct.now) c.clause_of.ensures c.in-Some.ensures))
    c.may_conjunct.ensures
