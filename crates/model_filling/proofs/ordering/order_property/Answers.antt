use Rattle.std.proofs.Common.{subst, sym, ◌∙◌, map, true≢false}
use Rattle.object_tables.specs.Models.{ModelData}
use Rattle.model_filling.specs.Filling.{IsOrderedAt, Orders}
use Rattle.model_filling.proofs.CounterpartLaws.{objects_back, reference_there}
use Rattle.model_filling.proofs.FillLaws.{listed}
use Rattle.model_filling.proofs.OrderLaws.{orders_nothing, wanted_order, order_orders, order_ordered}
use Rattle.model_filling.proofs.ordering.order_property.Goals as goal

pub returns-then-not-has_reference : goal.returns-then-not-has_reference
returns-then-not-has_reference g c =
    let wanted = g.C.Contents.held c.args.contents.now in
    let old = c.args.model.now in
    let back = objects_back old wanted c.requires.part.objects in
    record {
      orders = orders_nothing wanted old c.requires;
      ordered = λ r. absurd
          (true≢false (sym (c.has_reference.ensures.1 (reference_there wanted old c.args.o.0 c.args.p.0 back r)) ∙ c.if-not-has_reference.true));
    }

pub partners-requires : goal.partners-requires
partners-requires g c =
    reference_there c.args.model.now (g.C.Contents.held c.args.contents.now) c.args.o.0 c.args.p.0 c.requires.part.objects
    (c.has_reference.ensures.0 c.if-not-has_reference.false)

pub set_order-requires-clause-reference : goal.set_order-requires-clause-reference
set_order-requires-clause-reference g c = c.has_reference.ensures.0 c.if-not-has_reference.false

pub set_order-requires-clause-partners : goal.set_order-requires-clause-partners
set_order-requires-clause-partners g c =
    let wanted = g.C.Contents.held c.args.contents.now in
    let order = map (λ b. b.0) c.as_slice.result.now in
    wanted_order wanted c.args.model.now c.args.o.0 c.args.p.0 order c.requires (c.has_reference.ensures.0 c.if-not-has_reference.false)
    (listed wanted c.args.o.0 c.args.p.0 c.as_slice.result.now c.in_ok-partners.partners c.as_slice.ensures c.in_ok-partners.ensures)

pub returns-clause-orders : goal.returns-clause-orders
returns-clause-orders g c =
    let wanted = g.C.Contents.held c.args.contents.now in
    let order = map (λ b. b.0) c.as_slice.result.now in
    subst (Orders wanted c.args.model.now) (sym c.set_order.ensures)
    (order_orders wanted c.args.model.now c.args.o.0 c.args.p.0 order c.requires (c.has_reference.ensures.0 c.if-not-has_reference.false)
    (listed wanted c.args.o.0 c.args.p.0 c.as_slice.result.now c.in_ok-partners.partners c.as_slice.ensures c.in_ok-partners.ensures))

pub returns-clause-ordered : goal.returns-clause-ordered
returns-clause-ordered g c =
    let wanted = g.C.Contents.held c.args.contents.now in
    let order = map (λ b. b.0) c.as_slice.result.now in
    λ r. subst (λ (n : ModelData). IsOrderedAt wanted n c.args.o.0 c.args.p.0) (sym c.set_order.ensures)
    (order_ordered wanted c.args.model.now c.args.o.0 c.args.p.0 order c.requires (c.has_reference.ensures.0 c.if-not-has_reference.false)
    (listed wanted c.args.o.0 c.args.p.0 c.as_slice.result.now c.in_ok-partners.partners c.as_slice.ensures c.in_ok-partners.ensures))
