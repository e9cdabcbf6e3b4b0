use Rattle.std.proofs.Common.{sym}
use Rattle.std.proofs.lemmas.Result.{IfOk-weaker}
use Rattle.template_match.specs.Prepared.{problem_in}
use Rattle.template_match.proofs.ChoiceLaws.{saying_is}
use Rattle.template_match.proofs.branching.said_branch.Goals as goal

pub returns : goal.returns
returns c =
    IfOk-weaker c.saying_branch.result _ _
    (λ branch. saying_is (problem_in c.args.prepared.now) c.args.binding.now.values c.requires.prepared.posed c.requires.prepared.places c.args.conjunct.now c.in-Some.variable c.in-Some.e.now
    branch c.requires.conjunct c.requires.usable (sym c.in-Some.ensures))
    c.saying_branch.ensures
