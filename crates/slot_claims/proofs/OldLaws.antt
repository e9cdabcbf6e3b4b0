-- What a slot of a model holds: nothing, where the object isn't live or its class doesn't have the property.
use Rattle.std.specs.Prelude.{◌≡◌, ◌⊎◌, ◌↔◌, ℕ, Bool, true, false, List, [], ◌∷◌, ◌++◌, map, length, Option, None, Some, IsTrue, Contains, if◌then◌else◌}
use Rattle.std.specs.Option.{option_map}
use Rattle.std.proofs.Common.{refl, sym, ap, ◌∙◌, arith, inl, inr, append-nil}
use Rattle.std.proofs.lemmas.Bool.{cases_lt}
use Rattle.std.proofs.lemmas.List.{get_or_past}
use Rattle.mof_metamodel.specs.Metamodels.{props_of, type_of}
use Rattle.object_tables.specs.declared.value.ObjId.{ObjId}
use Rattle.object_tables.specs.Ids.{object_ids}
use Rattle.object_tables.specs.Kept.{Kept}
use Rattle.object_tables.specs.Objects.{Object, Slot}
use Rattle.object_tables.specs.Models.{ModelData, object_at, class_at, slot_in, slot_number, index_of, no_slot, values_at, partners_at, is_class_type, IsReferenceOf, IsAttributeOf}
use Rattle.object_tables.proofs.ModelLemmas.{index-found}
use Rattle.qv_syntax.specs.declared.program.Program.{Program}
use Rattle.qvtr_semantics.specs.Objects.{value_datum}
use Rattle.repair_semantics.specs.Claims.{Held}
use Rattle.repair_semantics.specs.Images.{held_in}
use Rattle.repair_semantics.specs.TargetItems.{target_meta_number}
use Rattle.slot_claims.specs.declared.held_value.HeldValue.{HeldValue}
use Rattle.slot_claims.specs.declared.held_value.HeldValue.TheVariants as values
use Rattle.slot_claims.specs.HeldValues.{held_by}

module _ (program : Program) (m : ModelData) (o p : ℕ) where
  -- the partners of a reference, or the values of an attribute
  abbrev held_as : Bool → List (Held ℕ)
  held_as b =
      if b then map (λ b. Held.object b) (partners_at m o p) else map (λ v. Held.datum (value_datum (target_meta_number program) v)) (values_at m o p)

  pub partners_held : (hs : List (Held ℕ)) → IsReferenceOf m o p → hs ≡ map (λ b. Held.object b) (partners_at m o p) → hs ≡ held_in program m o p
  partners_held hs has is = is ∙ sym (ap held_as has.reference)

  pub values_held : (hs : List (Held ℕ)) → IsAttributeOf m o p
      → hs ≡ map (λ v. Held.datum (value_datum (target_meta_number program) v)) (values_at m o p) → hs ≡ held_in program m o p
  values_held hs has is = is ∙ sym (ap held_as has.attribute)

  abbrev IsProperty : Type 0
  IsProperty = (class : ℕ) × (class_at m o ≡ Some class) × Contains (props_of m.meta class) p

  slot_somewhere : Kept m → (slot_in m.meta p (object_at m o) ≡ no_slot) ⊎ IsProperty
  slot_somewhere kept = by (object_at m o) refl
    where
      by : (x : Option Object) → object_at m o ≡ x → (slot_in m.meta p (object_at m o) ≡ no_slot) ⊎ IsProperty
      by None is = inl (ap (slot_in m.meta p) is)
      by (Some ob) is =
          let props : List ℕ = props_of m.meta ob.class in
          elim (cases_lt (index_of props p) (length props)) [
            | inl below ↦
                inr (ob.class, ap (λ (x : Option Object). option_map (λ (ob : Object). ob.class) x) is, (index_of props p, below, index-found props p p below))
            | inr past ↦
                (let long = (kept.objects o ob is).slots in
                inl (ap (slot_in m.meta p) is ∙ get_or_past ob.slots (slot_number m.meta ob.class p) no_slot (omega (arith, past, long))))
          ]

  none_held : (b : Bool) → slot_in m.meta p (object_at m o) ≡ no_slot → [] ≡ held_as b
  none_held true is = sym (ap (λ (s : Slot). map (λ b. Held.object b) s.partners) is)
  none_held false is = sym (ap (λ (s : Slot). map (λ v. Held.datum (value_datum (target_meta_number program) v)) s.values) is)

  pub nothing_held : Kept m → (r a : Bool) → (IsTrue r ↔ IsReferenceOf m o p) → r ≡ false → (IsTrue a ↔ IsAttributeOf m o p) → a ≡ false
      → [] ≡ held_in program m o p
  nothing_held kept r a reference unlinked attribute unset = by (slot_somewhere kept)
    where
      neither : IsProperty → (b : Bool) → is_class_type (type_of m.meta p) ≡ b → false ≡ true
      neither has true is = sym unlinked ∙ reference.1 (record { class = has.0; class_is = has.1; has = has.2; reference = is })
      neither has false is = sym unset ∙ attribute.1 (record { class = has.0; class_is = has.1; has = has.2; attribute = is })

      no : false ≡ true → ⊥
      no is = cc

      by : (slot_in m.meta p (object_at m o) ≡ no_slot) ⊎ IsProperty → [] ≡ held_in program m o p
      by (inl none) = none_held (is_class_type (type_of m.meta p)) none
      by (inr has) = absurd (no (neither has (is_class_type (type_of m.meta p)) refl))

-- ---- partners

partner_held : (ps : List ℕ) → map (λ b. held_by (values.Object b)) (object_ids ps) ≡ map (λ b. Held.object b) ps
partner_held [] = refl
partner_held (b ∷ ps) = ap (λ hs. Held.object b ∷ hs) (partner_held ps)

-- all partners were found where none is left
pub all_found : (ps : List ℕ) (found : List HeldValue) (left whole : List ObjId) → whole ≡ object_ids ps → left ≡ []
    → map held_by found ++ map (λ b. held_by (values.Object b)) left ≡ map (λ b. held_by (values.Object b)) whole
    → map held_by found ≡ map (λ b. Held.object b) ps
all_found ps found left whole is none so_far =
    sym (append-nil (map held_by found)) ∙ sym (ap (λ l. map held_by found ++ map (λ b. held_by (values.Object b)) l) none) ∙ so_far
    ∙ ap (map (λ b. held_by (values.Object b))) is ∙ partner_held ps
