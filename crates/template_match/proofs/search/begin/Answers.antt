use Rattle.std.proofs.Common.{refl, subst}
use Rattle.std.specs.Prelude.{IfSome}
use Rattle.template_match.specs.Branches.{IsBranch}
use Rattle.template_match.specs.Prepared.{problem_in}
use Rattle.template_match.proofs.search.begin.Goals as goal

pub returns-in-Some : goal.returns-in-Some
returns-in-Some c =
    (refl, subst (λ o. IfSome o (IsBranch (problem_in c.args.prepared.now) c.args.binding.now.values)) c.in-Some.is c.in_ok-level.ensures)
