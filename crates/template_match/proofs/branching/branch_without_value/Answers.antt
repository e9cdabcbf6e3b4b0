use Rattle.std.proofs.Common.{sym}
use Rattle.template_match.specs.Prepared.{problem_in}
use Rattle.template_match.specs.Search.{sought, usable_variable}
use Rattle.template_match.proofs.ChoiceLaws.{object_is, stuck_is}
use Rattle.template_match.proofs.ListLaws.{find_some}
use Rattle.template_match.proofs.branching.branch_without_value.Goals as goal

pub returns-in_ok-object_branch-in-Some : goal.returns-in_ok-object_branch-in-Some
returns-in_ok-object_branch-in-Some c =
    object_is (problem_in c.args.prepared.now) c.args.binding.now.values c.requires.prepared.posed c.requires.prepared.places c.in-Some.variable
    c.in_ok-object_branch-in-Some.field-0
    (find_some (usable_variable (problem_in c.args.prepared.now) c.args.binding.now.values) (sought (problem_in c.args.prepared.now)) c.in-Some.variable (sym c.in-Some.ensures)).1
    c.in_ok-object_branch-in-Some.ensures.variable c.in_ok-object_branch-in-Some.ensures.candidates

pub returns-in-None : goal.returns-in-None
returns-in-None c =
    let p = problem_in c.args.prepared.now in
    let a = c.args.binding.now.values in
    stuck_is p a c.requires.links c.requires.conjuncts (sym c.in-None.ensures)
