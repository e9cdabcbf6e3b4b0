use Rattle.object_tables.proofs.ModelLemmas.{placed_seen, near-within, has_seen, class_of_rows}
use Rattle.object_tables.proofs.ReorderLemmas.{apart_at, tied-order, seen-order, order_seen, kept_reordered}
use Rattle.object_tables.proofs.WholeLemmas.{kept_after}
use Rattle.object_tables.proofs.model.Model.set_order.Goals as goal

pub near_place-place-requires-clause-class : goal.near_place-place-requires-clause-class
near_place-place-requires-clause-class c = (placed_seen _ _ _ _ _ _ _ c.self.invariant.tied c.self.view_is c.class_of.ensures.class).class

pub near_place-place-requires-clause-small : goal.near_place-place-requires-clause-small
near_place-place-requires-clause-small c = (placed_seen _ _ _ _ _ _ _ c.self.invariant.tied c.self.view_is c.class_of.ensures.class).small

pub set_order-requires-clause-place : goal.set_order-requires-clause-place
set_order-requires-clause-place c =
    rw c.near_place-place.ensures
    (near-within _ _ _ _ _ (placed_seen _ _ _ _ _ _ _ c.self.invariant.tied c.self.view_is c.class_of.ensures.class)
    (has_seen _ _ _ _ _ _ _ c.self.view_is c.class_of.ensures.class c.requires.reference.class_is c.requires.reference.has))

pub set_order-requires-clause-apart : goal.set_order-requires-clause-apart
set_order-requires-clause-apart c =
    apart_at _ _ _ _ _ _ _ _ c.self.invariant.tied (class_of_rows _ _ _ _ _ c.self.view_is c.class_of.ensures.class)
    (has_seen _ _ _ _ _ _ _ c.self.view_is c.class_of.ensures.class c.requires.reference.class_is c.requires.reference.has) c.near_place-place.ensures

pub set_order-requires-clause-same : goal.set_order-requires-clause-same
set_order-requires-clause-same c = order_seen _ _ _ _ _ _ _ _ c.self.view_is c.class_of.ensures.class c.near_place-place.ensures c.requires.partners

pub invariant_of-self : goal.invariant_of-self
invariant_of-self c = record {
  tied = tied-order _ _ _ _ _ _ _ _ c.self.invariant.tied c.set_order.ensures;
  few = c.self.invariant.few;
  kept = kept_after _ _ _ _ _ _ _ c.self.invariant c.self.view_is
      (seen-order _ _ _ _ _ _ _ _ _ c.self.view_is (class_of_rows _ _ _ _ _ c.self.view_is c.class_of.ensures.class) c.near_place-place.ensures c.set_order.ensures)
      (λ k. kept_reordered _ _ _ _ k c.requires.reference c.requires.partners);
}

pub returns : goal.returns
returns c =
    seen-order _ _ _ _ _ _ _ _ _ c.self.view_is (class_of_rows _ _ _ _ _ c.self.view_is c.class_of.ensures.class) c.near_place-place.ensures c.set_order.ensures

pub set_order-requires-clause-object : goal.set_order-requires-clause-object
set_order-requires-clause-object c = (placed_seen _ _ _ _ _ _ _ c.self.invariant.tied c.self.view_is c.class_of.ensures.class).object
