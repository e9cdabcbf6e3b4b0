use Rattle.std.proofs.Common.{ℕ, ap, ◌∙◌}
use Rattle.mof_metamodel.specs.declared.desc.MetaDesc.{MetaDesc}
use Rattle.object_tables.specs.Models.{ModelData}
use Rattle.object_tables.specs.Tied.{near, far}
use Rattle.object_tables.proofs.ModelLemmas.{placed_seen, has_seen, same_class}
use Rattle.mof_metamodel.proofs.PropLemmas.{prop_known}
use Rattle.object_tables.proofs.model.Model.ends.Goals as goal

pub near_place-near-requires-clause-class : goal.near_place-near-requires-clause-class
near_place-near-requires-clause-class c = (placed_seen _ _ _ _ _ _ _ c.self.invariant.tied c.self.view_is c.class_of.ensures.class).class

pub near_place-near-requires-clause-small : goal.near_place-near-requires-clause-small
near_place-near-requires-clause-small c = (placed_seen _ _ _ _ _ _ _ c.self.invariant.tied c.self.view_is c.class_of.ensures.class).small

pub far_place-far-requires-clause-class : goal.far_place-far-requires-clause-class
far_place-far-requires-clause-class c = (placed_seen _ _ _ _ _ _ _ c.self.invariant.tied c.self.view_is c.class_of-2.ensures.class).class

pub far_place-far-requires-clause-prop : goal.far_place-far-requires-clause-prop
far_place-far-requires-clause-prop c =
    prop_known c.self.inside.meta.now c.class_of.result.0 c.args.p.0 (has_seen _ _ _ _ _ _ _ c.self.view_is c.class_of.ensures.class c.requires.reference.class_is c.requires.reference.has)

pub far_place-far-requires-clause-small : goal.far_place-far-requires-clause-small
far_place-far-requires-clause-small c = (placed_seen _ _ _ _ _ _ _ c.self.invariant.tied c.self.view_is c.class_of-2.ensures.class).small

pub returns-clause-near : goal.returns-clause-near
returns-clause-near c = λ k h.
    c.near_place-near.ensures
    ∙ ap (λ (m : MetaDesc). near m c.class_of.result.0 c.args.p.0) (ap (λ (v : ModelData). v.meta) c.self.view_is)
    ∙ ap (λ (x : ℕ). near c.args.self.now.meta x c.args.p.0) (same_class c.args.self.now c.args.a.0 c.class_of.result.0 k c.class_of.ensures.class h)

pub returns-clause-far : goal.returns-clause-far
returns-clause-far c = λ k h.
    c.far_place-far.ensures
    ∙ ap (λ (m : MetaDesc). far m c.class_of-2.result.0 c.args.p.0) (ap (λ (v : ModelData). v.meta) c.self.view_is)
    ∙ ap (λ (x : ℕ). far c.args.self.now.meta x c.args.p.0) (same_class c.args.self.now c.args.b.0 c.class_of-2.result.0 k c.class_of-2.ensures.class h)
