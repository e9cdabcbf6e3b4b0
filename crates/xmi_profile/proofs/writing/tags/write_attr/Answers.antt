use Rattle.std.proofs.Common.{◌<◌, sym, ap, subst, ◌∙◌, refl}
use Rattle.std.proofs.lemmas.Result.{on_ok_weaker}
use Rattle.mof_metamodel.specs.Metamodels.{prop_count}
use Rattle.xmi_text.specs.Calls.{wrote}
use Rattle.model_assembly.specs.declared.form.Form.TheVariants as forms
use Rattle.model_assembly.specs.Forms.{form_of}
use Rattle.xmi_profile.specs.Canon.{attr_by}
use Rattle.xmi_profile.specs.Writable.{CanWrite}
use Rattle.xmi_profile.proofs.WritingForms.{attribute_at, reference_at, property_known}
use Rattle.xmi_profile.proofs.writing.tags.write_attr.Goals as goal

pub form_of-requires : goal.form_of-requires
form_of-requires c = subst (λ x. c.args.p.0 < prop_count x) (sym c.meta.ensures) (property_known _ _ _ c.requires.property)

pub write_value-requires-clause-attribute : goal.write_value-requires-clause-attribute
write_value-requires-clause-attribute c =
    attribute_at c.args.model.now c.args.o.0 c.args.p.0 forms.Attribute c.requires.property (ap (λ x. form_of x c.args.p.0) (sym c.meta.ensures) ∙ sym c.in-Attribute.ensures) refl

pub write_value-requires-clause-can : goal.write_value-requires-clause-can
write_value-requires-clause-can c =
    subst (λ f. CanWrite c.args.writer.now (attr_by c.args.model.now c.args.o.0 c.args.p.0 f)) (ap (λ x. form_of x c.args.p.0) (sym c.meta.ensures) ∙ sym c.in-Attribute.ensures) c.requires.can

pub returns-in-Attribute : goal.returns-in-Attribute
returns-in-Attribute c =
    on_ok_weaker c.write_value.result
    (λ e. e ∙ ap (λ f. wrote c.args.writer.now (attr_by c.args.model.now c.args.o.0 c.args.p.0 f)) (c.in-Attribute.ensures ∙ ap (λ x. form_of x c.args.p.0) c.meta.ensures)) c.write_value.ensures

pub write_partners-requires-clause-reference : goal.write_partners-requires-clause-reference
write_partners-requires-clause-reference c =
    reference_at c.args.model.now c.args.o.0 c.args.p.0 forms.Identifiers c.requires.property (ap (λ x. form_of x c.args.p.0) (sym c.meta.ensures) ∙ sym c.in-Identifiers.ensures) refl

pub write_partners-requires-clause-can : goal.write_partners-requires-clause-can
write_partners-requires-clause-can c =
    subst (λ f. CanWrite c.args.writer.now (attr_by c.args.model.now c.args.o.0 c.args.p.0 f)) (ap (λ x. form_of x c.args.p.0) (sym c.meta.ensures) ∙ sym c.in-Identifiers.ensures) c.requires.can

pub returns-in-Identifiers : goal.returns-in-Identifiers
returns-in-Identifiers c =
    on_ok_weaker c.write_partners.result
    (λ e. e ∙ ap (λ f. wrote c.args.writer.now (attr_by c.args.model.now c.args.o.0 c.args.p.0 f)) (c.in-Identifiers.ensures ∙ ap (λ x. form_of x c.args.p.0) c.meta.ensures)) c.write_partners.ensures

pub returns-in-Elements : goal.returns-in-Elements
returns-in-Elements c = ap (λ f. wrote c.args.writer.now (attr_by c.args.model.now c.args.o.0 c.args.p.0 f)) (c.in-Elements.ensures ∙ ap (λ x. form_of x c.args.p.0) c.meta.ensures)

pub returns-in-Parts : goal.returns-in-Parts
returns-in-Parts c = ap (λ f. wrote c.args.writer.now (attr_by c.args.model.now c.args.o.0 c.args.p.0 f)) (c.in-Parts.ensures ∙ ap (λ x. form_of x c.args.p.0) c.meta.ensures)

pub returns-in-Nesting : goal.returns-in-Nesting
returns-in-Nesting c = ap (λ f. wrote c.args.writer.now (attr_by c.args.model.now c.args.o.0 c.args.p.0 f)) (c.in-Nesting.ensures ∙ ap (λ x. form_of x c.args.p.0) c.meta.ensures)
