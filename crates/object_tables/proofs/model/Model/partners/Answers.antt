use Rattle.std.proofs.Common.{sym, ◌∙◌, ap}
use Rattle.object_tables.specs.Rows.{joined_at}
use Rattle.object_tables.specs.Ids.{object_ids}
use Rattle.std.specs.Prelude.{map}
use Rattle.object_tables.proofs.ModelLemmas.{placed_seen, near-within, has_seen, partners_live, partners_seen}
use Rattle.object_tables.proofs.model.Model.partners.Goals as goal

pub near_place-place-requires-clause-class : goal.near_place-place-requires-clause-class
near_place-place-requires-clause-class c = (placed_seen _ _ _ _ _ _ _ c.self.invariant.tied c.self.view_is c.class_of.ensures.class).class

pub near_place-place-requires-clause-small : goal.near_place-place-requires-clause-small
near_place-place-requires-clause-small c = (placed_seen _ _ _ _ _ _ _ c.self.invariant.tied c.self.view_is c.class_of.ensures.class).small

pub joined-requires-clause-object : goal.joined-requires-clause-object
joined-requires-clause-object c = (placed_seen _ _ _ _ _ _ _ c.self.invariant.tied c.self.view_is c.class_of.ensures.class).object

pub joined-requires-clause-place : goal.joined-requires-clause-place
joined-requires-clause-place c =
    rw c.near_place-place.ensures
    (near-within _ _ _ _ _ (placed_seen _ _ _ _ _ _ _ c.self.invariant.tied c.self.view_is c.class_of.ensures.class)
    (has_seen _ _ _ _ _ _ _ c.self.view_is c.class_of.ensures.class c.requires.class_is c.requires.has))

pub returns-clause-list : goal.returns-clause-list
returns-clause-list c =
    c.new.ensures
    ∙ ap (λ es. object_ids (map (λ e. e.0) es)) (c.joined.ensures ∙ ap (λ k. joined_at c.self.inside.tables c.args.o.0 k) c.near_place-place.ensures)
    ∙ ap object_ids (sym (partners_seen _ _ _ _ _ _ c.self.view_is c.class_of.ensures.class))

pub returns-clause-live : goal.returns-clause-live
returns-clause-live c = partners_live _ _ _ _ _ _ _ _ c.self.invariant.tied c.self.view_is c.class_of.ensures.class (has_seen _ _ _ _ _ _ _ c.self.view_is c.class_of.ensures.class c.requires.class_is c.requires.has)
