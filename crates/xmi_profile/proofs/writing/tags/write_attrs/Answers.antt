use Rattle.std.proofs.Common.{◌≡◌, ◌≤◌, ◌<◌, ℕ, List, sym, ap, subst, ◌∙◌, refl, arith, length, get_or}
use Rattle.std.specs.List.{flat_map}
use Rattle.mof_metamodel.specs.Metamodels.{props_of}
use Rattle.mof_metamodel.specs.Tables.{prop_numbers}
use Rattle.xmi_text.specs.Calls.{wrote}
use Rattle.model_assembly.specs.Profile.{object_props}
use Rattle.xmi_profile.specs.Canon.{attr_calls}
use Rattle.xmi_profile.specs.Writable.{Left}
use Rattle.xmi_profile.proofs.WritingSteps.{left_start, item_can, item_left, left_none_by}
use Rattle.xmi_profile.proofs.WritingForms.{props_here, property_here}
use Rattle.xmi_profile.proofs.writing.tags.write_attrs.Goals as goal

pub loop-p-init : goal.loop-p-init
loop-p-init c =
    let f = attr_calls c.args.model.now c.args.o.0 in
    let same : prop_numbers c.props-props.result.now ≡ object_props c.args.model.now c.args.o.0 =
    props_here c.args.model.now c.args.o.0 c.class_of.result.0 c.props-props.result.now c.class_of.ensures.class (c.props-props.ensures.numbers ∙ ap (λ x. props_of x c.class_of.result.0) c.meta.ensures)
    in
    subst (λ (ns : List ℕ). Left c.args.writer.now (flat_map f ns) (wrote c.args.writer.now (flat_map f (object_props c.args.model.now c.args.o.0)))) (sym same)
    (left_start c.args.writer.now (flat_map f (object_props c.args.model.now c.args.o.0)) c.requires.can)

pub write_attr-requires-clause-property : goal.write_attr-requires-clause-property
write_attr-requires-clause-property c =
    let short : c.loop-p.p-index < length c.props-props.result.now = omega arith in
    property_here c.args.model.now c.args.o.0 c.class_of.result.0 c.loop-p.p-index c.props-props.result.now _ (record { 0 = 0 }) c.class_of.ensures.class
    (c.props-props.ensures.numbers ∙ ap (λ x. props_of x c.class_of.result.0) c.meta.ensures) short refl

pub write_attr-requires-clause-can : goal.write_attr-requires-clause-can
write_attr-requires-clause-can c =
    let short : c.loop-p.p-index < length c.props-props.result.now = omega arith in
    item_can (λ p. p.0) (attr_calls c.args.model.now c.args.o.0) c.props-props.result.now c.loop-p.p-index (get_or c.props-props.result.now c.loop-p.p-index (record { 0 = 0 })) (record { 0 = 0 }) _ _ short refl c.loop-p.invariant

pub loop-p-preserved : goal.loop-p-preserved
loop-p-preserved c =
    let short : c.loop-p.p-index < length c.props-props.result.now = omega arith in
    item_left (λ p. p.0) (attr_calls c.args.model.now c.args.o.0) c.props-props.result.now c.loop-p.p-index (get_or c.props-props.result.now c.loop-p.p-index (record { 0 = 0 })) (record { 0 = 0 }) _ _ _ short refl
    c.loop-p.invariant c.in_ok-write_attr.ensures

pub returns : goal.returns
returns c =
    let past : length c.props-props.result.now ≤ c.loop-p.p-index = omega arith in
    left_none_by (λ p. p.0) (attr_calls c.args.model.now c.args.o.0) c.props-props.result.now c.loop-p.p-index _ _ past c.loop-p.invariant
