-- At a property of an object stand no values, or it is an attribute of its class.
use Rattle.std.proofs.Common.{◌≡◌, ◌⊎◌, ℕ, Bool, true, false, List, [], length, refl, sym, ap, ◌∙◌, arith, inl, inr, Option, None, Some}
use Rattle.std.specs.Prelude.{Contains, option_map}
use Rattle.std.proofs.lemmas.Bool.{cases_lt}
use Rattle.std.proofs.lemmas.List.{get_or_past}
use Rattle.mof_metamodel.specs.Metamodels.{props_of, type_of}
use Rattle.object_tables.specs.Objects.{Object}
use Rattle.object_tables.specs.Kept.{Kept}
use Rattle.object_tables.specs.Models.{ModelData, object_at, class_at, values_at, slot_in, slot_number, index_of, no_slot, is_class_type, IsAttributeOf, IsReferenceOf}
use Rattle.object_tables.proofs.ModelLemmas.{index-found}

-- what has values at a property has it as an attribute, in every model that is kept
pub values_somewhere : (m : ModelData) → Kept m → (o p : ℕ) → (values_at m o p ≡ []) ⊎ IsAttributeOf m o p
values_somewhere m kept o p = by (object_at m o) refl
  where
    at_class : (ob : Object) → object_at m o ≡ Some ob → class_at m o ≡ Some ob.class
    at_class ob e = ap (λ (x : Option Object). option_map (λ (ob : Object). ob.class) x) e

    at_type : (ob : Object) → object_at m o ≡ Some ob → Contains (props_of m.meta ob.class) p → (b : Bool) → is_class_type (type_of m.meta p) ≡ b
        → ((slot_in m.meta p (Some ob)).values ≡ []) ⊎ IsAttributeOf m o p
    at_type ob e c true t =
        let r : IsReferenceOf m o p = record { class = ob.class; class_is = at_class ob e; has = c; reference = t } in
        inl (ap (λ (x : Option Object). (slot_in m.meta p x).values) (sym e) ∙ (kept.references o p r).values)
    at_type ob e c false t = inr (record { class = ob.class; class_is = at_class ob e; has = c; attribute = t })

    by : (x : Option Object) → object_at m o ≡ x → ((slot_in m.meta p x).values ≡ []) ⊎ IsAttributeOf m o p
    by None e = inl refl
    by (Some ob) e =
        let props : List ℕ = props_of m.meta ob.class in
        elim (cases_lt (index_of props p) (length props)) [
          | inl l ↦ at_type ob e (index_of props p, l, index-found props p p l) (is_class_type (type_of m.meta p)) refl
          | inr le ↦ inl (let slots = (kept.objects o ob e).slots in ap (λ s. s.values) (get_or_past ob.slots (slot_number m.meta ob.class p) no_slot (omega (arith, le, slots))))
        ]
