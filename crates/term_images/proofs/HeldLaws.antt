-- What is read of a slot is what the object holds.
use Rattle.std.specs.Prelude.{◌≡◌, ◌↔◌, ℕ, Bool, true, false, List, [], ◌∷◌, ◌++◌, map, length, Option, None, Some, IsTrue, Contains, if◌then◌else◌}
use Rattle.std.specs.Option.{option_map}
use Rattle.std.proofs.Common.{refl, sym, ap, ◌∙◌, arith, inl, inr, append-nil}
use Rattle.std.proofs.lemmas.Bool.{true≢false, cases_lt}
use Rattle.std.proofs.lemmas.List.{get_or_past}
use Rattle.mof_metamodel.specs.Metamodels.{props_of, type_of}
use Rattle.object_tables.specs.declared.value.ObjId.{ObjId}
use Rattle.object_tables.specs.declared.value.Value.{Value}
use Rattle.object_tables.specs.Ids.{object_ids}
use Rattle.object_tables.specs.Objects.{Object, Slot}
use Rattle.object_tables.specs.Models.{ModelData, object_at, class_at, values_at, partners_at, is_class_type, IsReferenceOf, IsAttributeOf, no_slot, slot_in, index_of}
use Rattle.object_tables.specs.Kept.{Kept}
use Rattle.object_tables.proofs.ModelLemmas.{index-found}
use Rattle.qv_syntax.specs.declared.program.Program.{Program}
use Rattle.qvtr_semantics.specs.Objects.{value_datum}
use Rattle.repair_semantics.specs.Claims.{Held}
use Rattle.repair_semantics.specs.Images.{held_in}
use Rattle.repair_semantics.specs.TargetItems.{target_meta_number}
use Rattle.term_table.specs.declared.numbered.NumberedValue.{NumberedValue}
use Rattle.term_table.specs.declared.numbered.NumberedValue.TheVariants as numbered
use Rattle.term_images.specs.KeyReadings.{as_held, read_values, read_partners}

-- ---- partners

-- a partner as it is read
abbrev pub partner_value : ObjId → NumberedValue
partner_value o = numbered.Term o.0

partner_values : (bs : List ℕ) → map partner_value (object_ids bs) ≡ read_partners bs
partner_values [] = refl
partner_values (b ∷ bs) = ap (λ (vs : List NumberedValue). numbered.Term b ∷ vs) (partner_values bs)

-- all partners were read where none is left
pub all_read : (bs : List ℕ) (read : List NumberedValue) (left whole : List ObjId) → whole ≡ object_ids bs → left ≡ []
    → read ++ map partner_value left ≡ map partner_value whole → read ≡ read_partners bs
all_read bs read left whole is none so_far =
    sym (append-nil read) ∙ sym (ap (λ os. read ++ map partner_value os) none) ∙ so_far ∙ ap (map partner_value) is ∙ partner_values bs

seen_partners : (bs : List ℕ) → map as_held (read_partners bs) ≡ map (λ b. Held.object b) bs
seen_partners [] = refl
seen_partners (b ∷ bs) = ap (λ (hs : List (Held ℕ)). Held.object b ∷ hs) (seen_partners bs)

-- ---- values

seen_values : (meta : ℕ) (vs : List Value) → map as_held (read_values meta vs) ≡ map (λ v. Held.datum (value_datum meta v)) vs
seen_values meta [] = refl
seen_values meta (v ∷ vs) = ap (λ (hs : List (Held ℕ)). Held.datum (value_datum meta v) ∷ hs) (seen_values meta vs)

-- ---- slots

module _ (program : Program) (m : ModelData) (o p : ℕ) where
  -- what stands in the slot of a reference, or of an attribute
  abbrev held_if : Bool → List (Held ℕ)
  held_if is_reference =
      if is_reference then map (λ b. Held.object b) (partners_at m o p)
      else map (λ v. Held.datum (value_datum (target_meta_number program) v)) (values_at m o p)

  pub held_partners : (read : List NumberedValue) → IsReferenceOf m o p → read ≡ read_partners (partners_at m o p)
      → map as_held read ≡ held_in program m o p
  held_partners read has is = ap (map as_held) is ∙ seen_partners (partners_at m o p) ∙ sym (ap held_if has.reference)

  pub held_values : (read : List NumberedValue) → IsAttributeOf m o p → read ≡ read_values (target_meta_number program) (values_at m o p)
      → map as_held read ≡ held_in program m o p
  held_values read has is =
      ap (map as_held) is ∙ seen_values (target_meta_number program) (values_at m o p) ∙ sym (ap held_if has.attribute)

  empty_slot : (b : Bool) → slot_in m.meta p (object_at m o) ≡ no_slot → held_if b ≡ []
  empty_slot true none = ap (λ (s : Slot). map (λ b. Held.object b) s.partners) none
  empty_slot false none = ap (λ (s : Slot). map (λ v. Held.datum (value_datum (target_meta_number program) v)) s.values) none

  -- an object holds something at a property of its class alone
  pub nothing_held : Kept m → (r a : Bool) → (IsTrue r ↔ IsReferenceOf m o p) → r ≡ false → (IsTrue a ↔ IsAttributeOf m o p) → a ≡ false
      → held_in program m o p ≡ []
  nothing_held kept r a reference unlinked attribute unset = empty_slot (is_class_type (type_of m.meta p)) (by (object_at m o) refl)
    where
      none : (class : ℕ) → class_at m o ≡ Some class → Contains (props_of m.meta class) p
          → (b : Bool) → is_class_type (type_of m.meta p) ≡ b → false ≡ true
      none class is has true e = sym unlinked ∙ reference.1 (record { class = class; class_is = is; has = has; reference = e })
      none class is has false e = sym unset ∙ attribute.1 (record { class = class; class_is = is; has = has; attribute = e })

      by : (x : Option Object) → object_at m o ≡ x → slot_in m.meta p (object_at m o) ≡ no_slot
      by None here = ap (slot_in m.meta p) here
      by (Some object) here =
          let props = props_of m.meta object.class in
          let place = index_of props p in
          let class_is : class_at m o ≡ Some object.class = ap (λ (x : Option Object). option_map (λ ob. ob.class) x) here in
          elim (cases_lt place (length props)) [
            | inl below ↦ let has : Contains props p = (place, below, index-found props p p below) in
                absurd (true≢false (sym (none object.class class_is has (is_class_type (type_of m.meta p)) refl)))
            | inr past ↦ let long : length object.slots ≡ length props = (kept.objects o object here).slots in
                ap (slot_in m.meta p) here ∙ get_or_past object.slots place no_slot (omega (arith, long, past))
          ]
