use Rattle.std.proofs.Common.{subst, sym, ◌∙◌, true≢false}
use Rattle.object_tables.specs.Models.{ModelData}
use Rattle.model_filling.specs.Filling.{IsFilledAt, Fills}
use Rattle.model_filling.proofs.CounterpartLaws.{attribute_there}
use Rattle.model_filling.proofs.FillLaws.{wanted_values, values_fill, values_filled}
use Rattle.model_filling.proofs.PropertyLaws.{reference_otherwise}
use Rattle.model_filling.proofs.filling.fill_property.Goals as goal

pub link_partners-requires-clause-reference : goal.link_partners-requires-clause-reference
link_partners-requires-clause-reference g c =
    reference_otherwise c.args.model.now c.args.o.0 c.args.p.0 c.requires.property
    (λ a. true≢false (sym (c.has_attribute.ensures.1 a) ∙ c.if-not-has_attribute.true))

pub values-requires : goal.values-requires
values-requires g c =
    attribute_there c.args.model.now (g.C.Contents.held c.args.contents.now) c.args.o.0 c.args.p.0 c.requires.part.objects
    (c.has_attribute.ensures.0 c.if-not-has_attribute.false)

pub set_attr-requires-clause-attribute : goal.set_attr-requires-clause-attribute
set_attr-requires-clause-attribute g c = c.has_attribute.ensures.0 c.if-not-has_attribute.false

pub set_attr-requires-clause-slot : goal.set_attr-requires-clause-slot
set_attr-requires-clause-slot g c =
    wanted_values (g.C.Contents.held c.args.contents.now) c.args.model.now c.args.o.0 c.args.p.0 c.in_ok-values.values c.requires.part
    (c.has_attribute.ensures.0 c.if-not-has_attribute.false) c.in_ok-values.ensures

pub returns : goal.returns
returns g c =
    let wanted = g.C.Contents.held c.args.contents.now in
    let m = c.args.model.now in
    let attribute = c.has_attribute.ensures.0 c.if-not-has_attribute.false in
    record {
      fills = subst (Fills wanted m) (sym c.set_attr.ensures)
          (values_fill wanted m c.args.o.0 c.args.p.0 c.in_ok-values.values c.requires.part attribute c.in_ok-values.ensures);
      filled = subst (λ (n : ModelData). IsFilledAt wanted n c.args.o.0 c.args.p.0) (sym c.set_attr.ensures)
          (values_filled wanted m c.args.o.0 c.args.p.0 c.in_ok-values.values c.requires.part attribute c.in_ok-values.ensures);
    }
