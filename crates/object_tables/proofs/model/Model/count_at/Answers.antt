use Rattle.std.proofs.Common.{ap, ◌∙◌, length, Some}
use Rattle.object_tables.specs.Models.{is_class_type}
use Rattle.object_tables.proofs.ModelLemmas.{placed_seen}
use Rattle.object_tables.proofs.ContainerLemmas.{place_known, place_within}
use Rattle.object_tables.proofs.BreachLemmas.{count-joined, count-values, no_class_type}
use Rattle.object_tables.proofs.model.Model.count_at.Goals as goal

pub prop-requires : goal.prop-requires
prop-requires c = place_known _ _ _ _ _ _ c.self.view_is c.requires

pub degree-requires-clause-object : goal.degree-requires-clause-object
degree-requires-clause-object c = (placed_seen _ _ _ _ _ _ _ c.self.invariant.tied c.self.view_is c.requires.class_is).object

pub degree-requires-clause-place : goal.degree-requires-clause-place
degree-requires-clause-place c = place_within _ _ _ _ _ _ _ _ c.self.invariant.tied c.self.view_is c.requires

pub values-requires-clause-object : goal.values-requires-clause-object
values-requires-clause-object c = (placed_seen _ _ _ _ _ _ _ c.self.invariant.tied c.self.view_is c.requires.class_is).object

pub values-requires-clause-place : goal.values-requires-clause-place
values-requires-clause-place c = place_within _ _ _ _ _ _ _ _ c.self.invariant.tied c.self.view_is c.requires

pub returns-in-Class : goal.returns-in-Class
returns-in-Class c =
    c.degree.ensures
    ∙ count-joined _ _ _ _ _ _ c.prop.result.now.ty c.self.view_is c.requires c.prop.ensures.type_is (ap (λ t. is_class_type (Some t)) c.in-Class.is)

pub returns-in_default : goal.returns-in_default
returns-in_default c =
    ap length c.values.ensures
    ∙ count-values _ _ _ _ _ _ c.prop.result.now.ty c.self.view_is c.requires c.prop.ensures.type_is (no_class_type c.prop.result.now.ty c.in_default.not-Class)
