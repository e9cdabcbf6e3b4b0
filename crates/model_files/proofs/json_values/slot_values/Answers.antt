use Rattle.std.proofs.Common.{◌≡◌, ◌∙◌, List, IfOk, map, refl, ap, subst}
use Rattle.serde_json.specs.Data.{Data}
use Rattle.serde_json.specs.View.{view}
use Rattle.model_assembly.specs.Forms.{form_of}
use Rattle.model_assembly.specs.declared.form.Form.TheVariants.{Attribute, Elements, Identifiers, Parts, Nesting}
use Rattle.model_files.proofs.JsonLaws.{attribute_at, reference_at, slot_is}
use Rattle.model_files.proofs.json_values.slot_values.Goals as goal

pub attribute_values-requires : goal.attribute_values-requires
attribute_values-requires c =
    attribute_at c.args.model.now c.args.o.0 c.args.p.0 c.form_of.result Attribute (c.form_of.ensures ∙ ap (λ meta. form_of meta c.args.p.0) c.meta.ensures)
    c.in-Attribute.is refl c.requires.property

pub attribute_values-requires-in-Elements : goal.attribute_values-requires-in-Elements
attribute_values-requires-in-Elements c =
    attribute_at c.args.model.now c.args.o.0 c.args.p.0 c.form_of.result Elements (c.form_of.ensures ∙ ap (λ meta. form_of meta c.args.p.0) c.meta.ensures)
    c.in-Elements.is refl c.requires.property

pub reference_values-requires : goal.reference_values-requires
reference_values-requires c =
    reference_at c.args.model.now c.args.o.0 c.args.p.0 c.form_of.result Identifiers (c.form_of.ensures ∙ ap (λ meta. form_of meta c.args.p.0) c.meta.ensures)
    c.in-Identifiers.is refl c.requires.property

pub reference_values-requires-in-Parts : goal.reference_values-requires-in-Parts
reference_values-requires-in-Parts c =
    reference_at c.args.model.now c.args.o.0 c.args.p.0 c.form_of.result Parts (c.form_of.ensures ∙ ap (λ meta. form_of meta c.args.p.0) c.meta.ensures)
    c.in-Parts.is refl c.requires.property

pub returns-in-Attribute : goal.returns-in-Attribute
returns-in-Attribute c =
    subst (λ (ds : List Data). IfOk c.attribute_values.result (λ values. map view values ≡ ds))
    (slot_is c.args.model.now c.args.o.0 c.args.p.0 c.form_of.result Attribute (c.form_of.ensures ∙ ap (λ meta. form_of meta c.args.p.0) c.meta.ensures) c.in-Attribute.is)
    c.attribute_values.ensures

pub returns-in-Elements : goal.returns-in-Elements
returns-in-Elements c =
    subst (λ (ds : List Data). IfOk c.attribute_values-in-Elements.result (λ values. map view values ≡ ds))
    (slot_is c.args.model.now c.args.o.0 c.args.p.0 c.form_of.result Elements (c.form_of.ensures ∙ ap (λ meta. form_of meta c.args.p.0) c.meta.ensures) c.in-Elements.is)
    c.attribute_values-in-Elements.ensures

pub returns-in-Identifiers : goal.returns-in-Identifiers
returns-in-Identifiers c =
    subst (λ (ds : List Data). IfOk c.reference_values.result (λ values. map view values ≡ ds))
    (slot_is c.args.model.now c.args.o.0 c.args.p.0 c.form_of.result Identifiers (c.form_of.ensures ∙ ap (λ meta. form_of meta c.args.p.0) c.meta.ensures) c.in-Identifiers.is)
    c.reference_values.ensures

pub returns-in-Parts : goal.returns-in-Parts
returns-in-Parts c =
    subst (λ (ds : List Data). IfOk c.reference_values-in-Parts.result (λ values. map view values ≡ ds))
    (slot_is c.args.model.now c.args.o.0 c.args.p.0 c.form_of.result Parts (c.form_of.ensures ∙ ap (λ meta. form_of meta c.args.p.0) c.meta.ensures) c.in-Parts.is)
    c.reference_values-in-Parts.ensures

pub returns-in-Nesting : goal.returns-in-Nesting
returns-in-Nesting c =
    ap (map view) c.new.ensures
    ∙ slot_is c.args.model.now c.args.o.0 c.args.p.0 c.form_of.result Nesting (c.form_of.ensures ∙ ap (λ meta. form_of meta c.args.p.0) c.meta.ensures) c.in-Nesting.is
