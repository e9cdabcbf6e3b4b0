-- A new object with a name, another text and a container: what stands before each step that puts it into a model.
use Rattle.std.proofs.Common.{◌≡◌, ℕ, List, [], ◌∷◌, length, refl, ap, sym, ◌∙◌, subst, arith, Option, Some, None, inl, inr, true≢false, ◌≤◌}
use Rattle.std.specs.Prelude.{Contains, IsTrue, option_map, replicate}
use Rattle.std.proofs.lemmas.Bool.{cases_lt}
use Rattle.std.proofs.lemmas.List.{get_or_past, get_or-replicate, length-replicate}
use Rattle.std.proofs.lemmas.List.Elements.{All-nil, All-cons}
use Rattle.std.proofs.lemmas.Option.{none-some}
use Rattle.mof_metamodel.specs.declared.desc.MetaDesc.{MetaDesc}
use Rattle.mof_metamodel.specs.Metamodels.{props_of, prop_at, type_of}
use Rattle.mof_metamodel.proofs.Facts.{nothing_in}
use Rattle.object_tables.specs.declared.value.Value.{Value}
use Rattle.object_tables.specs.declared.value.Value.TheVariants as values
use Rattle.object_tables.specs.Objects.{Object, Slot}
use Rattle.object_tables.specs.Models.{ModelData, class_at, partners_at, is_value_of, IsLinked, IsAttributeOf, IsReferenceOf, IsPartnerFor, IsSlotOf, IsFree, IsAddable, ConformsTo, is_class_type, added, new_object, no_slot, slot_in, slot_number, with_values, linked}
use Rattle.object_tables.specs.Kept.{Kept}
use Rattle.object_tables.proofs.SlotLemmas.{IsSlotted, class-with_slot, slot_cases}
use Rattle.object_tables.proofs.KeptLemmas.{sound_of, slotted_of, linked_partner}
use Rattle.object_tables.proofs.KeptEdits.{kept_with_values}
use Rattle.object_tables.proofs.KeptObjects.{object-added, kept_added}
use Rattle.example_models.specs.declared.parts.Part.{Part}
use Rattle.example_models.specs.Growing.{with_text, with_part}
use Rattle.example_models.specs.Parts.{MayHold, IsPart}

-- one text may stand where it is typed
pub one_text : (meta : MetaDesc) (p : ℕ) (text : List ℕ) → IsTrue (is_value_of meta (type_of meta p) (values.Str text)) → IsSlotOf meta p (values.Str text ∷ [])
one_text meta p text typed = record {
  typed = All-cons (λ v. IsTrue (is_value_of meta (type_of meta p) v)) (values.Str text) [] typed (All-nil (λ v. IsTrue (is_value_of meta (type_of meta p) v)));
  distinct = λ i j d short below. absurd (omega (arith, short, below));
}

-- ---- the new object

class-fresh : (m : ModelData) (class : ℕ) (id : List ℕ) → class_at (added m class id) (length m.objects) ≡ Some class
class-fresh m class id = elim (object-added m class id (length m.objects)) [
  | inl (e, g) ↦ ap (option_map (λ (ob : Object). ob.class)) g
  | inr (ne, g) ↦ absurd (ne refl)
]

slot-new : (meta : MetaDesc) (class q : ℕ) (id : List ℕ) → slot_in meta q (Some (new_object meta class id)) ≡ no_slot
slot-new meta class q id = elim (cases_lt (slot_number meta class q) (length (props_of meta class))) [
  | inl l ↦ get_or-replicate (length (props_of meta class)) (slot_number meta class q) no_slot no_slot l
  | inr le ↦ get_or_past (replicate (length (props_of meta class)) no_slot) (slot_number meta class q) no_slot
      (let many = length-replicate (length (props_of meta class)) no_slot in omega (arith, many, le))
]

-- no number has more partners than before
links_before : (m : ModelData) (class : ℕ) (id : List ℕ) (p a b : ℕ) → IsLinked (added m class id) p a b → IsLinked m p a b
links_before m class id p a b h = elim (object-added m class id a) [
  | inl (e, g) ↦ absurd (nothing_in b (subst (λ (s : Slot). Contains s.partners b) (ap (slot_in m.meta p) g ∙ slot-new m.meta class p id) h))
  | inr (ne, g) ↦ subst (λ (s : Slot). Contains s.partners b) (ap (slot_in m.meta p) g) h
]

class_kept : (m : ModelData) (class : ℕ) (id : List ℕ) (o c : ℕ) → class_at m o ≡ Some c → class_at (added m class id) o ≡ Some c
class_kept m class id o c h = elim (object-added m class id o) [
  | inl (e, g) ↦ absurd (none-some c (sym (ap (option_map (λ (ob : Object). ob.class)) (get_or_past m.objects o None (omega (arith, e)))) ∙ h))
  | inr (ne, g) ↦ ap (option_map (λ (ob : Object). ob.class)) g ∙ h
]

partners_kept : (m : ModelData) (o p : ℕ) (vs : List Value) (i q : ℕ) → IsSlotted m → partners_at (with_values m o p vs) i q ≡ partners_at m i q
partners_kept m o p vs i q s = elim (slot_cases m o p (λ (z : Slot). record z { values = vs }) i q s) [
  | inl e ↦ ap (λ (z : Slot). z.partners) e
  | inr (_, _, e) ↦ ap (λ (z : Slot). z.partners) e
]

-- ---- with its texts

-- a model with a new object of a class, whose links are those before
record HasNew (m : ModelData) (class : ℕ) (new : ModelData) : Type 0 where
  meta : new.meta ≡ m.meta
  kept : Kept new
  class_is : class_at new (length m.objects) ≡ Some class
  classes : (o c : ℕ) → class_at m o ≡ Some c → class_at new o ≡ Some c
  links : (p a b : ℕ) → IsLinked new p a b → IsLinked m p a b

module _ (m : ModelData) (part : Part) (k : Kept m) (is : IsPart m part) (can : IsAddable m part.class.0 part.id) where
  has_added : HasNew m part.class.0 (added m part.class.0 part.id)
  has_added = record {
    meta = refl;
    kept = kept_added m part.class.0 part.id k is.class can.concrete is.identifier can.new;
    class_is = class-fresh m part.class.0 part.id;
    classes = class_kept m part.class.0 part.id;
    links = links_before m part.class.0 part.id;
  }

  attribute_of : (new : ModelData) (p : ℕ) (text : List ℕ) → HasNew m part.class.0 new → MayHold m part.class.0 p text → IsAttributeOf new (length m.objects) p
  attribute_of new p text has may = record {
    class = part.class.0;
    class_is = has.class_is;
    has = subst (λ (d : MetaDesc). Contains (props_of d part.class.0) p) (sym has.meta) may.has;
    attribute = ap (λ (d : MetaDesc). is_class_type (type_of d p)) has.meta ∙ may.attribute_there;
  }

  typed_in : (new : ModelData) (p : ℕ) (text : List ℕ) → HasNew m part.class.0 new → MayHold m part.class.0 p text
      → IsTrue (is_value_of new.meta (type_of new.meta p) (values.Str text))
  typed_in new p text has may = subst (λ (d : MetaDesc). IsTrue (is_value_of d (type_of d p) (values.Str text))) (sym has.meta) may.typed

  has_text : (new : ModelData) (p : ℕ) (text : List ℕ) → HasNew m part.class.0 new → MayHold m part.class.0 p text
      → HasNew m part.class.0 (with_text new (length m.objects) p text)
  has_text new p text has may =
      let o : ℕ = length m.objects in
      let vs : List Value = values.Str text ∷ [] in
      let slotted = slotted_of new (sound_of new has.kept) in
      let same = class-with_slot new o p (λ (z : Slot). record z { values = vs }) in
      record {
        meta = has.meta;
        kept = kept_with_values new o p vs has.kept (attribute_of new p text has may) (one_text new.meta p text (typed_in new p text has may));
        class_is = same o ∙ has.class_is;
        classes = λ a c h. same a ∙ has.classes a c h;
        links = λ q a b h. has.links q a b (subst (λ (xs : List ℕ). Contains xs b) (partners_kept new o p vs a q slotted) h);
      }

  abbrev named : ModelData
  named = with_text (added m part.class.0 part.id) (length m.objects) 0 part.name

  abbrev texted : ModelData
  texted = with_text named (length m.objects) part.attribute.0 part.text

  has_named : HasNew m part.class.0 named
  has_named = has_text (added m part.class.0 part.id) 0 part.name has_added is.name

  has_both : HasNew m part.class.0 texted
  has_both = has_text named part.attribute.0 part.text has_named is.text

  -- no link leads to it
  none_to : (new : ModelData) → HasNew m part.class.0 new → (p a : ℕ) → IsLinked new p a (length m.objects) → ⊥
  none_to new has p a h =
      let old = has.links p a (length m.objects) h in
      none_past (length m.objects) (omega arith) (linked_partner m p a (length m.objects) (sound_of m k) old)
    where
      none_past : (o : ℕ) → length m.objects ≤ o → IsPartnerFor m p o → ⊥
      none_past o past for = none-some for.class (sym (ap (option_map (λ (ob : Object). ob.class)) (get_or_past m.objects o None past)) ∙ for.class_is)

  none_from : (new : ModelData) → HasNew m part.class.0 new → (p b : ℕ) → IsLinked new p (length m.objects) b → ⊥
  none_from new has p b h =
      let old = has.links p (length m.objects) b h in
      nothing_in b (subst (λ (x : Option Object). Contains (slot_in m.meta p x).partners b) (get_or_past m.objects (length m.objects) None (omega arith)) old)

  reference_of : (new : ModelData) → HasNew m part.class.0 new → IsReferenceOf new (length m.objects) part.reference.0
  reference_of new has = record {
    class = part.class.0;
    class_is = has.class_is;
    has = subst (λ (d : MetaDesc). Contains (props_of d part.class.0) part.reference.0) (sym has.meta) is.has;
    reference = ap (λ (d : MetaDesc). is_class_type (type_of d part.reference.0)) has.meta ∙ is.reference;
  }

  partner_for : (new : ModelData) → HasNew m part.class.0 new → IsPartnerFor new part.reference.0 part.container.0
  partner_for new has = record {
    class = is.container.class;
    class_is = has.classes part.container.0 is.container.class is.container.class_is;
    conforms = subst (λ (d : MetaDesc). ConformsTo d is.container.class (type_of d part.reference.0)) (sym has.meta) is.container.conforms;
  }

  free_for : (new : ModelData) → HasNew m part.class.0 new → IsFree new part.reference.0 (length m.objects) part.container.0
  free_for new has = record {
    part = λ composite. absurd (true≢false (sym composite ∙ ap (λ (d : MetaDesc). (prop_at d part.reference.0).composite) has.meta ∙ is.up));
    whole = λ q is_opposite composite a p contained. none_to new has p a contained.linked;
  }

  -- ---- before each step

  -- it may be named
  pub first_attribute : (new : ModelData) (o : ℕ) → new ≡ added m part.class.0 part.id → o ≡ length m.objects → IsAttributeOf new o 0
  first_attribute new o en eo =
      subst (λ k. IsAttributeOf new k 0) (sym eo) (subst (λ z. IsAttributeOf z (length m.objects) 0) (sym en) (attribute_of (added m part.class.0 part.id) 0 part.name has_added is.name))

  pub first_text : (new : ModelData) → new ≡ added m part.class.0 part.id → IsTrue (is_value_of new.meta (type_of new.meta 0) (values.Str part.name))
  first_text new en =
      subst (λ (z : ModelData). IsTrue (is_value_of z.meta (type_of z.meta 0) (values.Str part.name))) (sym en)
      (typed_in (added m part.class.0 part.id) 0 part.name has_added is.name)

  -- and have its other text
  pub second_attribute : (new : ModelData) (o : ℕ) → new ≡ named → o ≡ length m.objects → IsAttributeOf new o part.attribute.0
  second_attribute new o en eo =
      subst (λ k. IsAttributeOf new k part.attribute.0) (sym eo)
      (subst (λ z. IsAttributeOf z (length m.objects) part.attribute.0) (sym en) (attribute_of named part.attribute.0 part.text has_named is.text))

  pub second_text : (new : ModelData) → new ≡ named → IsTrue (is_value_of new.meta (type_of new.meta part.attribute.0) (values.Str part.text))
  second_text new en =
      subst (λ (z : ModelData). IsTrue (is_value_of z.meta (type_of z.meta part.attribute.0) (values.Str part.text))) (sym en)
      (typed_in named part.attribute.0 part.text has_named is.text)

  -- and be put into its container
  pub link_reference : (new : ModelData) (o : ℕ) → new ≡ texted → o ≡ length m.objects → IsReferenceOf new o part.reference.0
  link_reference new o en eo =
      subst (λ k. IsReferenceOf new k part.reference.0) (sym eo) (subst (λ z. IsReferenceOf z (length m.objects) part.reference.0) (sym en) (reference_of texted has_both))

  pub link_partner : (new : ModelData) → new ≡ texted → IsPartnerFor new part.reference.0 part.container.0
  link_partner new en = subst (λ z. IsPartnerFor z part.reference.0 part.container.0) (sym en) (partner_for texted has_both)

  pub link_new : (new : ModelData) (o : ℕ) → new ≡ texted → o ≡ length m.objects → IsLinked new part.reference.0 o part.container.0 → ⊥
  link_new new o en eo h =
      none_from texted has_both part.reference.0 part.container.0
      (subst (λ k. IsLinked texted part.reference.0 k part.container.0) eo (subst (λ z. IsLinked z part.reference.0 o part.container.0) en h))

  pub link_free : (new : ModelData) (o : ℕ) → new ≡ texted → o ≡ length m.objects → IsFree new part.reference.0 o part.container.0
  link_free new o en eo =
      subst (λ k. IsFree new part.reference.0 k part.container.0) (sym eo)
      (subst (λ z. IsFree z part.reference.0 (length m.objects) part.container.0) (sym en) (free_for texted has_both))

  -- ---- after each step

  pub is_named : (new last : ModelData) (o : ℕ) → new ≡ added m part.class.0 part.id → o ≡ length m.objects → last ≡ with_text new o 0 part.name → last ≡ named
  is_named new last o en eo e =
      e ∙ ap (λ z. with_text z o 0 part.name) en ∙ ap (λ k. with_text (added m part.class.0 part.id) k 0 part.name) eo

  pub is_texted : (new last : ModelData) (o : ℕ) → new ≡ named → o ≡ length m.objects → last ≡ with_text new o part.attribute.0 part.text → last ≡ texted
  is_texted new last o en eo e =
      e ∙ ap (λ z. with_text z o part.attribute.0 part.text) en ∙ ap (λ k. with_text named k part.attribute.0 part.text) eo

  pub is_whole : (new last : ModelData) (o : ℕ) → new ≡ texted → o ≡ length m.objects → last ≡ linked new part.reference.0 o part.container.0 → last ≡ with_part m part
  is_whole new last o en eo e =
      e ∙ ap (λ z. linked z part.reference.0 o part.container.0) en ∙ ap (λ k. linked texted part.reference.0 k part.container.0) eo
