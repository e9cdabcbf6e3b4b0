use Rattle.template_match.specs.Prepared.{problem_in}
use Rattle.template_match.proofs.ChoiceLaws.{object_is}
use Rattle.template_match.proofs.telling.untold_branch.Goals as goal

pub returns-in_ok-object_branch-in-Some-open_object : goal.returns-in_ok-object_branch-in-Some-open_object
returns-in_ok-object_branch-in-Some-open_object c =
    object_is (problem_in c.args.prepared.now) c.args.binding.now.values c.requires.prepared.posed c.requires.prepared.places c.in-Some-open_object.variable
    c.in_ok-object_branch-in-Some-open_object.field-0 c.in-Some-open_object.ensures c.in_ok-object_branch-in-Some-open_object.ensures.variable
    c.in_ok-object_branch-in-Some-open_object.ensures.candidates
