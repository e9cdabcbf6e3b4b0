use Rattle.object_tables.proofs.AddLemmas.{tied-values, seen-values}
use Rattle.object_tables.proofs.ModelLemmas.{placed_seen, near-within, has_seen, class_of_rows}
use Rattle.object_tables.proofs.KeptEdits.{kept_with_values}
use Rattle.object_tables.proofs.WholeLemmas.{kept_after}
use Rattle.object_tables.proofs.model.Model.set_attr.Goals as goal

pub near_place-place-requires-clause-class : goal.near_place-place-requires-clause-class
near_place-place-requires-clause-class c = (placed_seen _ _ _ _ _ _ _ c.self.invariant.tied c.self.view_is c.class_of.ensures.class).class

pub near_place-place-requires-clause-small : goal.near_place-place-requires-clause-small
near_place-place-requires-clause-small c = (placed_seen _ _ _ _ _ _ _ c.self.invariant.tied c.self.view_is c.class_of.ensures.class).small

pub set_values-requires-clause-place : goal.set_values-requires-clause-place
set_values-requires-clause-place c =
    rw c.near_place-place.ensures
    (near-within _ _ _ _ _ (placed_seen _ _ _ _ _ _ _ c.self.invariant.tied c.self.view_is c.class_of.ensures.class)
    (has_seen _ _ _ _ _ _ _ c.self.view_is c.class_of.ensures.class c.requires.attribute.class_is c.requires.attribute.has))

pub invariant_of-self : goal.invariant_of-self
invariant_of-self c = record {
  tied = tied-values _ _ _ _ _ _ _ _ c.self.invariant.tied c.set_values.ensures;
  few = c.self.invariant.few;
  kept = kept_after _ _ _ _ _ _ _ c.self.invariant c.self.view_is
      (seen-values _ _ _ _ _ c.class_of.result.0 _ _ _ c.self.view_is (class_of_rows _ _ _ _ _ c.self.view_is c.class_of.ensures.class) c.near_place-place.ensures c.set_values.ensures)
      (λ k. kept_with_values _ _ _ _ k c.requires.attribute c.requires.slot);
}

pub returns : goal.returns
returns c =
    seen-values _ _ _ _ _ c.class_of.result.0 _ _ _ c.self.view_is (class_of_rows _ _ _ _ _ c.self.view_is c.class_of.ensures.class) c.near_place-place.ensures c.set_values.ensures
