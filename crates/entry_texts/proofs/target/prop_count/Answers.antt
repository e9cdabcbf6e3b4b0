use Rattle.std.proofs.Common.{arith, ap, ◌∙◌}
use Rattle.std.specs.Prelude.{max}
use Rattle.entry_texts.proofs.PropLaws.{covers_more, covers_all}
use Rattle.entry_texts.proofs.target.prop_count.Goals as goal

pub loop-class-preserved : goal.loop-class-preserved
loop-class-preserved c =
    covers_more c.args.meta.now c.loop-class.class c.loop-class.count c.max-count.result c.props.result.now c.loop-class.invariant c.props.ensures.numbers c.props.ensures.order c.props.ensures.within
    (c.max-count.ensures ∙ ap (max c.loop-class.count) c.number_behind.ensures)

pub returns : goal.returns
returns c = covers_all c.args.meta.now c.loop-class.class c.loop-class.count c.loop-class.invariant (omega (arith, c.class_count-class-end.ensures.count))
