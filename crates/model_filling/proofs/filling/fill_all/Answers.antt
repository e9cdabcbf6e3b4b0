use Rattle.std.proofs.Common.{ℕ, ◌<◌, length, arith, below_more}
use Rattle.object_tables.specs.Validity.{IsPropertyOf}
use Rattle.model_filling.specs.Filling.{IsFilledAt}
use Rattle.model_filling.proofs.PropertyLaws.{object_below}
use Rattle.model_filling.proofs.filling.fill_all.Goals as goal

pub loop-o-init : goal.loop-o-init
loop-o-init g c = record { part = c.requires; filled = λ a l. absurd (omega (arith, l)) }

pub fill_object-requires : goal.fill_object-requires
fill_object-requires g c = c.loop-o.invariant.part

pub loop-o-preserved : goal.loop-o-preserved
loop-o-preserved g c =
    let wanted = g.C.Contents.held c.args.contents.now in
    let fills = c.in_ok-fill_object.ensures.fills in
    record {
      part = fills.part;
      filled = below_more (λ a. (p : ℕ) → IsPropertyOf wanted a p → IsFilledAt wanted c.fill_object.new.model a p) c.loop-o.o
          (λ a l p q. fills.still a p (c.loop-o.invariant.filled a l p q))
          c.in_ok-fill_object.ensures.filled;
    }

pub returns : goal.returns
returns g c =
    let wanted = g.C.Contents.held c.args.contents.now in
    record {
      part = c.loop-o.invariant.part;
      filled = λ o p q. (
          let below : o < length wanted.objects = object_below wanted o p q in
          let number = c.end-o-end.ensures.number in
          let count = c.requires.objects.count in
          c.loop-o.invariant.filled o (omega arith) p q);
    }
