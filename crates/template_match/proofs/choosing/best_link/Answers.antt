use Rattle.std.proofs.Common.{arith}
use Rattle.template_match.specs.Prepared.{problem_in}
use Rattle.template_match.proofs.ChoiceLaws.{either_choice, none_further, none_at_all}
use Rattle.template_match.proofs.choosing.best_link.Goals as goal

pub loop-link-preserved : goal.loop-link-preserved
loop-link-preserved c =
    let p = problem_in c.args.prepared.now in
    let a = c.args.binding.now.values in (
      either_choice p a c.fewer-best.result c.loop-link.best c.link_choice.result c.fewer-best.ensures.either c.loop-link.invariant.0 c.link_choice.ensures.some,
      none_further p a p.links c.loop-link.link-index _ c.fewer-best.result c.loop-link.best c.link_choice.result c.loop-link-test.true c.fewer-best.ensures.none c.loop-link.invariant.1
          c.link_choice.ensures.none,
    )

pub returns-clause-none : goal.returns-clause-none
returns-clause-none c =
    let p = problem_in c.args.prepared.now in
    none_at_all p c.args.binding.now.values p.links c.loop-link.link-index c.loop-link.best (omega arith) c.loop-link.invariant.1
