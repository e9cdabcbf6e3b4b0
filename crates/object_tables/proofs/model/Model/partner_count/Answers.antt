use Rattle.std.proofs.Common.{sym, ◌∙◌, ap, length}
use Rattle.std.proofs.lemmas.List.{length-map}
use Rattle.object_tables.specs.Rows.{joined_at}
use Rattle.object_tables.specs.Tied.{near}
use Rattle.object_tables.proofs.ModelLemmas.{placed_seen, near-within, has_seen, partners_seen}
use Rattle.object_tables.proofs.model.Model.partner_count.Goals as goal

pub near_place-place-requires-clause-class : goal.near_place-place-requires-clause-class
near_place-place-requires-clause-class c = (placed_seen _ _ _ _ _ _ _ c.self.invariant.tied c.self.view_is c.class_of.ensures.class).class

pub near_place-place-requires-clause-small : goal.near_place-place-requires-clause-small
near_place-place-requires-clause-small c = (placed_seen _ _ _ _ _ _ _ c.self.invariant.tied c.self.view_is c.class_of.ensures.class).small

pub degree-requires-clause-object : goal.degree-requires-clause-object
degree-requires-clause-object c = (placed_seen _ _ _ _ _ _ _ c.self.invariant.tied c.self.view_is c.class_of.ensures.class).object

pub degree-requires-clause-place : goal.degree-requires-clause-place
degree-requires-clause-place c =
    rw c.near_place-place.ensures
    (near-within _ _ _ _ _ (placed_seen _ _ _ _ _ _ _ c.self.invariant.tied c.self.view_is c.class_of.ensures.class)
    (has_seen _ _ _ _ _ _ _ c.self.view_is c.class_of.ensures.class c.requires.class_is c.requires.has))

pub returns : goal.returns
returns c =
    c.degree.ensures
    ∙ ap (λ k. length (joined_at c.self.inside.tables c.args.o.0 k)) c.near_place-place.ensures
    ∙ sym (length-map (joined_at c.self.inside.tables c.args.o.0 (near c.self.inside.meta.now c.class_of.result.0 c.args.p.0)) (λ e. e.0))
    ∙ ap length (sym (partners_seen _ _ _ _ _ _ c.self.view_is c.class_of.ensures.class))
