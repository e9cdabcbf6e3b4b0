-- Steps of comparing what two models hold, and of counting objects.
use Rattle.std.specs.Prelude.{◌≡◌, ◌↔◌, ◌+◌, ◌<◌, ℕ, Bool, true, false, ◌&&◌, not, nat_eq, List, [], ◌∷◌, map, length, Option, None, Some, Contains, IsTrue}
use Rattle.std.specs.List.{filter, list_all, range_with_len}
use Rattle.std.specs.Option.{option_map}
use Rattle.std.specs.Cmp.Lexicographic.{pointwise}
use Rattle.std.proofs.Common.{refl, ap, sym, ◌∙◌, subst, arith, inl, inr, true≢false, get_or, drop, add-one, drop-cons}
use Rattle.std.proofs.lemmas.Bool.{cases_lt}
use Rattle.std.proofs.lemmas.List.{length-append, get_or_past}
use Rattle.std.proofs.lemmas.List.Elements.{filter-append}
use Rattle.std.proofs.lemmas.Option.{none-some}
use Rattle.mof_metamodel.specs.declared.desc.MetaDesc.{MetaDesc}
use Rattle.mof_metamodel.specs.declared.desc.PropId.{PropId}
use Rattle.mof_metamodel.specs.Metamodels.{props_of, type_of}
use Rattle.mof_metamodel.specs.Tables.{prop_numbers}
use Rattle.mof_metamodel.proofs.TableLemmas.{range_more}
use Rattle.object_tables.specs.declared.value.ObjId.{ObjId}
use Rattle.object_tables.specs.Ids.{object_ids}
use Rattle.object_tables.specs.Objects.{Object}
use Rattle.object_tables.specs.Models.{ModelData, class_at, is_class_type, values_at, partners_at, IsAttributeOf, IsReferenceOf, IsLive}
use Rattle.object_tables.specs.Validity.{IsPropertyOf}
use Rattle.object_tables.proofs.ModelLemmas.{live_class}
use Rattle.qvtr_semantics.specs.Data.{same_value}
use Rattle.repair_semantics.specs.Reports.{same_slot, same_slots, is_updated}
use Rattle.enforce_mode.specs.Reports.{HasClassesOf}

-- ---- counts

module _ (f : ℕ → Bool) (n : ℕ) where
  counted : length (filter f (range_with_len 0 (n + 1))) ≡ length (filter f (range_with_len 0 n)) + length (filter f (n ∷ []))
  counted =
      ap (λ xs. length (filter f xs)) (range_more 0 n n (omega arith)) ∙ ap length (filter-append f (range_with_len 0 n) (n ∷ []))
      ∙ length-append (filter f (range_with_len 0 n)) (filter f (n ∷ []))

  -- a number that passes
  pub counted_with : f n ≡ true → length (filter f (range_with_len 0 (n + 1))) ≡ length (filter f (range_with_len 0 n)) + 1
  counted_with h = let one : length (filter f (n ∷ [])) ≡ 1 = rw h refl in omega (arith, counted, one)

  -- and one that doesn't
  pub counted_without : f n ≡ false → length (filter f (range_with_len 0 (n + 1))) ≡ length (filter f (range_with_len 0 n))
  counted_without h = let none : length (filter f (n ∷ [])) ≡ 0 = rw h refl in omega (arith, counted, none)

-- ---- slots

-- a property that isn't an attribute is a reference
pub reference_else : (m : ModelData) (o p : ℕ) (b : Bool) → IsPropertyOf m o p → (IsTrue b ↔ IsAttributeOf m o p) → b ≡ false → IsReferenceOf m o p
reference_else m o p b has attribute isnt = by (is_class_type (type_of m.meta p)) refl
  where
    by : (k : Bool) → is_class_type (type_of m.meta p) ≡ k → IsReferenceOf m o p
    by true is = record { class = has.class; class_is = has.class_is; has = has.has; reference = is }
    by false is = absurd (true≢false (sym (attribute.1 (record { class = has.class; class_is = has.class_is; has = has.has; attribute = is }))
        ∙ isnt))

-- a reference is one in another model of the metamodel too
pub reference_too : (m n : ModelData) (o p : ℕ) → n.meta ≡ m.meta → IsPropertyOf n o p → IsReferenceOf m o p → IsReferenceOf n o p
reference_too m n o p same has reference = record {
  class = has.class;
  class_is = has.class_is;
  has = has.has;
  reference = ap (λ (x : MetaDesc). is_class_type (type_of x p)) same ∙ reference.reference;
}

numbers_back : (os : List ℕ) → map (λ (o : ObjId). o.0) (object_ids os) ≡ os
numbers_back [] = refl
numbers_back (o ∷ os) = ap (λ ns. o ∷ ns) (numbers_back os)

-- references hold the same where their partners are the same
pub same_partners : (m n : ModelData) (o p : ℕ) (same : Bool) (xs ys : List ObjId) → values_at m o p ≡ [] → values_at n o p ≡ []
    → xs ≡ object_ids (partners_at m o p) → ys ≡ object_ids (partners_at n o p)
    → same ≡ pointwise nat_eq (map (λ (x : ObjId). x.0) xs) (map (λ (x : ObjId). x.0) ys) → same ≡ same_slot m n o p
same_partners m n o p same xs ys none bare one other is =
    let first : map (λ (x : ObjId). x.0) xs ≡ partners_at m o p = ap (map (λ (x : ObjId). x.0)) one ∙ numbers_back (partners_at m o p) in
    let second : map (λ (x : ObjId). x.0) ys ≡ partners_at n o p = ap (map (λ (x : ObjId). x.0)) other ∙ numbers_back (partners_at n o p) in
    is ∙ ap (λ ns. pointwise nat_eq ns (map (λ (x : ObjId). x.0) ys)) first ∙ ap (pointwise nat_eq (partners_at m o p)) second
    ∙ sym (ap (λ vs. pointwise same_value vs (values_at n o p) && pointwise nat_eq (partners_at m o p) (partners_at n o p)) none
    ∙ ap (λ vs. pointwise same_value [] vs && pointwise nat_eq (partners_at m o p) (partners_at n o p)) bare)

-- ---- objects

module _ (m n : ModelData) (o class : ℕ) (classes : HasClassesOf m n) (was : class_at m o ≡ Some class) (live : IsLive n o) where
  class_too : class_at n o ≡ Some class
  class_too =
      let (k, is) = live_class n o live in
      is ∙ sym (classes.classes o k within is) ∙ was
    where
      within : o < length m.objects
      within = elim (cases_lt o (length m.objects)) [
        | inl below ↦ below
        | inr past ↦ absurd (none-some class (sym (ap (λ (x : Option Object). option_map (λ (ob : Object). ob.class) x)
            (get_or_past m.objects o None past)) ∙ was))
      ]

  -- it has its properties there too
  pub property_too : (p : ℕ) → Contains (props_of m.meta class) p → IsPropertyOf n o p
  property_too p has = record {
    class = class;
    class_is = class_too;
    has = subst (λ (x : MetaDesc). Contains (props_of x class) p) (sym classes.meta) has;
  }

  -- it is changed where not all of its slots are the same
  pub updated_as : (same : Bool) → same ≡ list_all (same_slot m n o) (props_of m.meta class) → not same ≡ is_updated m n o
  updated_as same is =
      ap not is ∙ sym (ap (λ b. b && not (same_slots m n o (class_at m o))) live ∙ ap (λ x. not (same_slots m n o x)) was)

-- ---- properties in turn

-- all properties from a place on pass where that of the place does and those behind it do
pub all_from : (f : ℕ → Bool) (ps : List PropId) (i : ℕ) (d : PropId) (b : Bool) → i < length ps → f (get_or ps i d).0 ≡ b
    → list_all f (prop_numbers (drop i ps)) ≡ (b && list_all f (prop_numbers (drop (i + 1) ps)))
all_from f ps i d b within is =
    let next : drop i ps ≡ get_or ps i d ∷ drop (i + 1) ps = rw (add-one, drop-cons ps i d) refl in
    ap (λ xs. list_all f (prop_numbers xs)) next ∙ ap (λ x. x && list_all f (prop_numbers (drop (i + 1) ps))) is
