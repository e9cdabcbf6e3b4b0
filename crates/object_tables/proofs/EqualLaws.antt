-- Models whose parts are equal are equal: a model is its classes, its identifiers and its slots.
use Rattle.std.proofs.Common.{◌≡◌, ℕ, ◌<◌, Bool, true, false, List, length, get_or, refl, sym, ◌∙◌, ap, ap₂, subst, arith, Option, None, Some}
use Rattle.std.specs.Prelude.{Contains, option_map}
use Rattle.std.proofs.lemmas.List.{ext_get_or}
use Rattle.std.proofs.lemmas.List.Elements.{Contains-get_or}
use Rattle.mof_metamodel.specs.declared.desc.MetaDesc.{MetaDesc}
use Rattle.mof_metamodel.specs.Metamodels.{props_of, type_of}
use Rattle.object_tables.specs.declared.value.Value.{Value}
use Rattle.object_tables.specs.Kept.{Kept}
use Rattle.object_tables.specs.Models.{ModelData, object_at, class_at, slot_in, no_slot, is_class_type, IsAttributeOf, IsReferenceOf}
use Rattle.object_tables.specs.Objects.{Object, Slot}
use Rattle.object_tables.specs.Sameness.{HasSameParts}
use Rattle.object_tables.proofs.DistinctLemmas.{property_place}
use Rattle.std.proofs.lemmas.Option.{same_Some}

abbrev slot : List Value → List ℕ → Slot
slot vs ps = record { values = vs; partners = ps }

slot_parts : (s t : Slot) → s.values ≡ t.values → s.partners ≡ t.partners → s ≡ t
slot_parts s t e f = ap₂ slot e f

abbrev object : ℕ → List ℕ → List Slot → Object
object c id slots = record { class = c; id = id; slots = slots }

object_parts : (x y : Object) → x.class ≡ y.class → x.id ≡ y.id → x.slots ≡ y.slots → x ≡ y
object_parts x y e f g = ap (λ (c : ℕ). object c x.id x.slots) e ∙ ap₂ (object y.class) f g

abbrev model : MetaDesc → List (Option Object) → ModelData
model meta objects = record { meta = meta; objects = objects }

module _ (a b : ModelData) (h : HasSameParts a b) (ka : Kept a) (kb : Kept b) where
  reference_there : (o p : ℕ) → IsReferenceOf a o p → IsReferenceOf b o p
  reference_there o p r = record {
    class = r.class;
    class_is = h.classes o ∙ r.class_is;
    has = subst (λ (d : MetaDesc). Contains (props_of d r.class) p) (sym h.meta) r.has;
    reference = subst (λ (d : MetaDesc). is_class_type (type_of d p) ≡ true) (sym h.meta) r.reference;
  }

  attribute_there : (o p : ℕ) → IsAttributeOf a o p → IsAttributeOf b o p
  attribute_there o p r = record {
    class = r.class;
    class_is = h.classes o ∙ r.class_is;
    has = subst (λ (d : MetaDesc). Contains (props_of d r.class) p) (sym h.meta) r.has;
    attribute = subst (λ (d : MetaDesc). is_class_type (type_of d p) ≡ false) (sym h.meta) r.attribute;
  }

  slot_both : (o p c : ℕ) → class_at a o ≡ Some c → Contains (props_of a.meta c) p → slot_in a.meta p (object_at a o) ≡ slot_in b.meta p (object_at b o)
  slot_both o p c is has = by (is_class_type (type_of a.meta p)) refl
    where
      by : (t : Bool) → is_class_type (type_of a.meta p) ≡ t → slot_in a.meta p (object_at a o) ≡ slot_in b.meta p (object_at b o)
      by true e =
          let r : IsReferenceOf a o p = record { class = c; class_is = is; has = has; reference = e } in
          slot_parts (slot_in a.meta p (object_at a o)) (slot_in b.meta p (object_at b o))
          ((ka.references o p r).values ∙ sym (kb.references o p (reference_there o p r)).values)
          (sym (h.partners o p r))
      by false e =
          let r : IsAttributeOf a o p = record { class = c; class_is = is; has = has; attribute = e } in
          slot_parts (slot_in a.meta p (object_at a o)) (slot_in b.meta p (object_at b o))
          (sym (h.values o p r))
          ((ka.attributes o p r).partners ∙ sym (kb.attributes o p (attribute_there o p r)).partners)

  -- the slot at a place is that of the property at the place
  slot_placed : (m : ModelData) (o k : ℕ) (x : Object) → object_at m o ≡ Some x → k < length (props_of m.meta x.class)
      → slot_in m.meta (get_or (props_of m.meta x.class) k 0) (object_at m o) ≡ get_or x.slots k no_slot
  slot_placed m o k x e l =
      ap (slot_in m.meta (get_or (props_of m.meta x.class) k 0)) e
      ∙ ap (λ (i : ℕ). get_or x.slots i no_slot) (property_place m.meta x.class k 0 l)

  object_both : (o : ℕ) (x y : Object) → object_at a o ≡ Some x → object_at b o ≡ Some y → x ≡ y
  object_both o x y e f = object_parts x y class_is id_is (ext_get_or no_slot x.slots y.slots long each)
    where
      class_is : x.class ≡ y.class
      class_is = same_Some _ _ (sym (ap (option_map (λ ob. ob.class)) e) ∙ sym (h.classes o) ∙ ap (option_map (λ ob. ob.class)) f)

      id_is : x.id ≡ y.id
      id_is = same_Some _ _ (sym (ap (option_map (λ ob. ob.id)) e) ∙ sym (h.identifiers o) ∙ ap (option_map (λ ob. ob.id)) f)

      props_are : props_of a.meta x.class ≡ props_of b.meta y.class
      props_are = ap₂ props_of (sym h.meta) class_is

      long : length x.slots ≡ length y.slots
      long = (ka.objects o x e).slots ∙ ap length props_are ∙ sym (kb.objects o y f).slots

      each : (k : ℕ) → k < length x.slots → get_or x.slots k no_slot ≡ get_or y.slots k no_slot
      each k within =
          let wide = (ka.objects o x e).slots in
          let inside : k < length (props_of a.meta x.class) = omega (arith, within, wide) in
          let same_length : length (props_of a.meta x.class) ≡ length (props_of b.meta y.class) = ap length props_are in
          let there : k < length (props_of b.meta y.class) = omega (arith, inside, same_length) in
          let same_prop : get_or (props_of a.meta x.class) k 0 ≡ get_or (props_of b.meta y.class) k 0 = ap (λ (ps : List ℕ). get_or ps k 0) props_are in
          sym (slot_placed a o k x e inside)
          ∙ slot_both o (get_or (props_of a.meta x.class) k 0) x.class (ap (option_map (λ ob. ob.class)) e) (Contains-get_or (props_of a.meta x.class) k 0 inside)
          ∙ ap (λ (p : ℕ). slot_in b.meta p (object_at b o)) same_prop
          ∙ slot_placed b o k y f there

  none_both : (o : ℕ) (x : Object) → object_at a o ≡ None → object_at b o ≡ Some x → ⊥
  none_both o x e f =
      let g : None ≡ Some x.class = sym (ap (option_map (λ ob. ob.class)) e) ∙ sym (h.classes o) ∙ ap (option_map (λ ob. ob.class)) f in
      absurd cc

  none_there : (o : ℕ) (x : Object) → object_at a o ≡ Some x → object_at b o ≡ None → ⊥
  none_there o x e f =
      let g : Some x.class ≡ None = sym (ap (option_map (λ ob. ob.class)) e) ∙ sym (h.classes o) ∙ ap (option_map (λ ob. ob.class)) f in
      absurd cc

  objects_both : (o : ℕ) → object_at a o ≡ object_at b o
  objects_both o = by (object_at a o) (object_at b o) refl refl
    where
      by : (x y : Option Object) → object_at a o ≡ x → object_at b o ≡ y → object_at a o ≡ object_at b o
      by None None e f = e ∙ sym f
      by None (Some y) e f = absurd (none_both o y e f)
      by (Some x) None e f = absurd (none_there o x e f)
      by (Some x) (Some y) e f = e ∙ ap (λ (z : Object). Some z) (object_both o x y e f) ∙ sym f

  pub models_equal : b ≡ a
  models_equal = sym (ap₂ model (sym h.meta) (ext_get_or None a.objects b.objects (sym h.count) (λ o l. objects_both o)))
