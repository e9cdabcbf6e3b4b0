use Rattle.std.proofs.Common.{ℕ, ◌<◌, length, arith, below_more}
use Rattle.object_tables.specs.Models.{IsReferenceOf}
use Rattle.model_filling.specs.Filling.{IsOrderedAt}
use Rattle.model_filling.proofs.OrderLaws.{all_ordered}
use Rattle.model_filling.proofs.PropertyLaws.{property_of_reference, object_below}
use Rattle.model_filling.proofs.ordering.order_all.Goals as goal

pub loop-o-init : goal.loop-o-init
loop-o-init g c = record { filled = c.requires; ordered = λ a l. absurd (omega (arith, l)) }

pub order_object-requires : goal.order_object-requires
order_object-requires g c = c.loop-o.invariant.filled

pub loop-o-preserved : goal.loop-o-preserved
loop-o-preserved g c =
    let wanted = g.C.Contents.held c.args.contents.now in
    let orders = c.in_ok-order_object.ensures.orders in
    record {
      filled = orders.filled;
      ordered = below_more (λ a. (p : ℕ) → IsReferenceOf wanted a p → IsOrderedAt wanted c.order_object.new.model a p) c.loop-o.o
          (λ a l p r. orders.still a p (c.loop-o.invariant.ordered a l p r))
          c.in_ok-order_object.ensures.ordered;
    }

pub returns : goal.returns
returns g c =
    let wanted = g.C.Contents.held c.args.contents.now in
    all_ordered wanted c.loop-o.model c.loop-o.invariant.filled (λ o p r.
    let below : o < length wanted.objects = object_below wanted o p (property_of_reference wanted o p r) in
    let number = c.end-o-end.ensures.number in
    let count = c.requires.part.objects.count in
    c.loop-o.invariant.ordered o (omega arith) p r)
