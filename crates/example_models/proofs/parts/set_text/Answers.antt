use Rattle.std.proofs.Common.{◌≡◌, [], ◌∷◌, ◌++◌, ap, sym, ◌∙◌, subst}
use Rattle.object_tables.specs.declared.value.Value.TheVariants as values
use Rattle.object_tables.specs.Models.{IsSlotOf, with_values}
use Rattle.example_models.proofs.PartLaws.{one_text}
use Rattle.example_models.proofs.parts.set_text.Goals as goal

pub set_attr-requires-clause-slot : goal.set_attr-requires-clause-slot
set_attr-requires-clause-slot c =
    let one : c.push.new.self ≡ values.Str c.args.text ∷ [] = c.in_ok-push.ensures.ok ∙ ap (λ xs. xs ++ values.Str c.args.text ∷ []) c.new-values.ensures in
    subst (IsSlotOf c.args.model.now.meta c.args.attribute.0) (sym one) (one_text c.args.model.now.meta c.args.attribute.0 c.args.text c.requires.text)

pub returns : goal.returns
returns c =
    let one : c.push.new.self ≡ values.Str c.args.text ∷ [] = c.in_ok-push.ensures.ok ∙ ap (λ xs. xs ++ values.Str c.args.text ∷ []) c.new-values.ensures in
    c.set_attr.ensures ∙ ap (with_values c.args.model.now c.args.object.0 c.args.attribute.0) one
