use Rattle.std.proofs.Common.{◌≡◌, Option, false, subst}
use Rattle.std.specs.Prelude.{IfNone, Contains}
use Rattle.template_match.specs.declared.choice.Choice.{Choice}
use Rattle.template_match.specs.declared.link.Link.{Link}
use Rattle.template_match.specs.Prepared.{problem_in}
use Rattle.template_match.specs.Search.{usable_link}
use Rattle.template_match.proofs.branching.branch_without_conjunct.Goals as goal

pub branch_without_value-requires-clause-links : goal.branch_without_value-requires-clause-links
branch_without_value-requires-clause-links c =
    let p = problem_in c.args.prepared.now in
    let a = c.args.binding.now.values in
    subst (λ (o : Option Choice). IfNone o ((l : Link) → Contains p.links l → usable_link p a l ≡ false)) c.in-None.is c.in_ok-choice.ensures.none
