use Rattle.std.proofs.Common.{◌∙◌, ap, subst, ℕ, List}
use Rattle.std.specs.Prelude.{Contains}
use Rattle.std.specs.List.{list_all}
use Rattle.mof_metamodel.specs.declared.desc.MetaDesc.{MetaDesc}
use Rattle.mof_metamodel.specs.Metamodels.{props_of}
use Rattle.repair_semantics.specs.Reports.{same_slot}
use Rattle.enforce_mode.proofs.ReportLaws.{property_too, updated_as}
use Rattle.enforce_mode.proofs.reporting.is_updated.Goals as goal

pub are_same_slots-requires-clause-made : goal.are_same_slots-requires-clause-made
are_same_slots-requires-clause-made c =
    let class = c.class_of.result.0 in
    λ p has. property_too c.args.target.now c.args.made.now c.args.o.0 class c.requires c.class_of.ensures.class
    (c.is_live-else-not-is_live.ensures.0 c.if-not-is_live-2.false) p
    (subst (λ (xs : List ℕ). Contains xs p) (c.props.ensures.numbers ∙ ap (λ (x : MetaDesc). props_of x class) c.meta.ensures) has)

pub returns : goal.returns
returns c =
    let class = c.class_of.result.0 in
    updated_as c.args.target.now c.args.made.now c.args.o.0 class c.requires c.class_of.ensures.class
    (c.is_live-else-not-is_live.ensures.0 c.if-not-is_live-2.false) c.are_same_slots.result
    (c.are_same_slots.ensures
    ∙ ap (list_all (same_slot c.args.target.now c.args.made.now c.args.o.0))
    (c.props.ensures.numbers ∙ ap (λ (x : MetaDesc). props_of x class) c.meta.ensures))
