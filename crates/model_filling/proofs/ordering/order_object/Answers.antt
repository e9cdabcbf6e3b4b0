use Rattle.std.proofs.Common.{◌∙◌, sym, arith, below_more, true≢false}
use Rattle.object_tables.specs.Models.{IsReferenceOf}
use Rattle.model_filling.specs.Filling.{IsOrderedAt}
use Rattle.model_filling.proofs.CounterpartLaws.{objects_back, reference_there}
use Rattle.model_filling.proofs.OrderLaws.{orders_nothing, orders_through}
use Rattle.model_filling.proofs.PropertyLaws.{by_description, prop_in, property_of_reference, live_by_property, each_property}
use Rattle.model_filling.proofs.ordering.order_object.Goals as goal

pub returns-then-not-is_live : goal.returns-then-not-is_live
returns-then-not-is_live g c =
    let wanted = g.C.Contents.held c.args.contents.now in
    let old = c.args.model.now in
    let o = c.args.o.0 in
    let back = objects_back old wanted c.requires.part.objects in
    record {
      orders = orders_nothing wanted old c.requires;
      ordered = λ p r. absurd (true≢false
          (sym (c.is_live.ensures.1 (live_by_property old o p (property_of_reference old o p (reference_there wanted old o p back r))))
          ∙ c.if-not-is_live.true));
    }

pub loop-p-init : goal.loop-p-init
loop-p-init g c =
    record {
      orders = orders_nothing (g.C.Contents.held c.args.contents.now) c.args.model.now c.requires;
      ordered = λ k l. absurd (omega (arith, l));
    }

pub order_property-requires : goal.order_property-requires
order_property-requires g c = c.loop-p.invariant.orders.filled

pub loop-p-preserved : goal.loop-p-preserved
loop-p-preserved g c =
    let wanted = g.C.Contents.held c.args.contents.now in
    let new = c.order_property.new.model in
    let o = c.args.o.0 in
    let props = c.props-p-items.result.now in
    let orders = c.in_ok-order_property.ensures.orders in
    record {
      orders = orders_through wanted c.args.model.now c.loop-p.model new c.loop-p.invariant.orders orders;
      ordered = below_more (λ k. IsReferenceOf wanted o (prop_in props k) → IsOrderedAt wanted new o (prop_in props k)) c.loop-p.p-index
          (λ k l r. orders.still o (prop_in props k) (c.loop-p.invariant.ordered k l r))
          c.in_ok-order_property.ensures.ordered;
    }

pub returns-clause-ordered : goal.returns-clause-ordered
returns-clause-ordered g c =
    let wanted = g.C.Contents.held c.args.contents.now in
    let old = c.args.model.now in
    let o = c.args.o.0 in
    λ p r. each_property old o c.class_of.result.0 c.props-p-items.result.now
    (λ q. IsReferenceOf wanted o q → IsOrderedAt wanted c.loop-p.model o q) c.class_of.ensures.class
    (by_description _ _ c.class_of.result.0 c.props-p-items.result.now c.props-p-items.ensures.numbers c.meta.ensures) (λ k l. c.loop-p.invariant.ordered k (omega arith)) p
    (property_of_reference old o p (reference_there wanted old o p (objects_back old wanted c.requires.part.objects) r)) r
