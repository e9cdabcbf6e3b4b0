use Rattle.std.proofs.Common.{sym, ◌∙◌, ap}
use Rattle.object_tables.specs.Rows.{place_at}
use Rattle.object_tables.proofs.ModelLemmas.{placed_seen, near-within, has_seen, values_seen}
use Rattle.object_tables.proofs.model.Model.attr.Goals as goal

pub near_place-place-requires-clause-class : goal.near_place-place-requires-clause-class
near_place-place-requires-clause-class c = (placed_seen _ _ _ _ _ _ _ c.self.invariant.tied c.self.view_is c.class_of.ensures.class).class

pub near_place-place-requires-clause-small : goal.near_place-place-requires-clause-small
near_place-place-requires-clause-small c = (placed_seen _ _ _ _ _ _ _ c.self.invariant.tied c.self.view_is c.class_of.ensures.class).small

pub values-requires-clause-object : goal.values-requires-clause-object
values-requires-clause-object c = (placed_seen _ _ _ _ _ _ _ c.self.invariant.tied c.self.view_is c.class_of.ensures.class).object

pub values-requires-clause-place : goal.values-requires-clause-place
values-requires-clause-place c =
    rw c.near_place-place.ensures
    (near-within _ _ _ _ _ (placed_seen _ _ _ _ _ _ _ c.self.invariant.tied c.self.view_is c.class_of.ensures.class)
    (has_seen _ _ _ _ _ _ _ c.self.view_is c.class_of.ensures.class c.requires.class_is c.requires.has))

pub returns : goal.returns
returns c =
    c.values.ensures
    ∙ ap (λ k. (place_at c.self.inside.tables c.args.o.0 k).values) c.near_place-place.ensures
    ∙ sym (values_seen _ _ _ _ _ _ c.self.view_is c.class_of.ensures.class)
