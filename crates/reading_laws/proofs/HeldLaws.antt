-- At a single property an object of a valid model holds one thing at most.
use Rattle.std.specs.Prelude.{◌≡◌, ◌≤◌, ◌⊎◌, ℕ, Bool, true, false, ◌&&◌, ◌||◌, List, [], ◌∷◌, length, Option, None, Some}
use Rattle.std.specs.List.{list_any}
use Rattle.std.specs.Option.{option_map}
use Rattle.std.proofs.Common.{refl, ap, sym, ◌∙◌, subst, arith, inl, inr, true≢false}
use Rattle.std.proofs.lemmas.Bool.{cases_lt}
use Rattle.std.proofs.lemmas.Bool.Decides.{nat_tests}
use Rattle.std.proofs.lemmas.List.{get_or_past, length-map}
use Rattle.mof_metamodel.specs.Metamodels.{prop_at, props_of, type_of}
use Rattle.object_tables.specs.Objects.{Object, Slot}
use Rattle.object_tables.specs.Models.{ModelData, object_at, is_class_type, values_at, partners_at, slot_in, slot_number, no_slot}
use Rattle.object_tables.specs.Validity.{Valid, count_at, IsPropertyOf}
use Rattle.object_tables.proofs.ModelLemmas.{index-found}
use Rattle.qv_syntax.specs.declared.program.Program.{Program}
use Rattle.qvtr_semantics.specs.Objects.{value_datum}
use Rattle.ocl_eval.specs.OrderLaws.{same_decides}
use Rattle.repair_semantics.specs.TargetItems.{target_meta_number}
use Rattle.repair_semantics.specs.Claims.{Held, is_one, same_held}
use Rattle.repair_semantics.specs.Images.{same_number, held_in}
use Rattle.mof_metamodel.proofs.Facts.{first_true, second_true}

alone_holds : (a : Bool) → (a || false) ≡ true → a ≡ true
alone_holds true e = refl
alone_holds false e = e

-- ---- what is held

pub held_same : (h x : Held ℕ) → same_held same_number h x ≡ true → h ≡ x
held_same (Held.datum d) (Held.datum e) s = ap (λ z. Held.datum z) ((same_decides d e).0 s)
held_same (Held.object a) (Held.object b) s = let same : a ≡ b = grind (arith, nat_tests) in ap (λ z. Held.object z) same
held_same (Held.datum d) (Held.object b) s = absurd (true≢false (sym s))
held_same (Held.object a) (Held.datum e) s = absurd (true≢false (sym s))

-- two that stand in a list of one at most are one
pub one_held : (xs : List (Held ℕ)) (h i : Held ℕ) → length xs ≤ 1
    → list_any (same_held same_number h) xs ≡ true → list_any (same_held same_number i) xs ≡ true → h ≡ i
one_held [] h i few a b = absurd (true≢false (sym a))
one_held (x ∷ []) h i few a b =
    held_same h x (alone_holds (same_held same_number h x) a) ∙ sym (held_same i x (alone_holds (same_held same_number i x) b))
one_held (x ∷ y ∷ xs) h i few a b = absurd (omega (arith, few))

-- ---- how many are held

pub held_count : (program : Program) (m : ModelData) (o p : ℕ) → length (held_in program m o p) ≡ count_at m o p
held_count program m o p = by (is_class_type (type_of m.meta p)) refl
  where
    by : (c : Bool) → is_class_type (type_of m.meta p) ≡ c → length (held_in program m o p) ≡ count_at m o p
    by true is = rw is (length-map (partners_at m o p) (λ b. Held.object b))
    by false is = rw is (length-map (values_at m o p) (λ v. Held.datum (value_datum (target_meta_number program) v)))

-- an object has nothing but at properties of its class
pub counted_at : (m : ModelData) (o p : ℕ) → ((ob : Object) → object_at m o ≡ Some ob → length ob.slots ≡ length (props_of m.meta ob.class))
    → IsPropertyOf m o p ⊎ (count_at m o p ≡ 0)
counted_at m o p slotted = of_object (object_at m o) refl
  where
    empty_slot : slot_in m.meta p (object_at m o) ≡ no_slot → count_at m o p ≡ 0
    empty_slot e = by (is_class_type (type_of m.meta p)) refl
      where
        by : (c : Bool) → is_class_type (type_of m.meta p) ≡ c → count_at m o p ≡ 0
        by true is = rw is (ap (λ (s : Slot). length s.partners) e)
        by false is = rw is (ap (λ (s : Slot). length s.values) e)

    of_object : (x : Option Object) → object_at m o ≡ x → IsPropertyOf m o p ⊎ (count_at m o p ≡ 0)
    of_object None is = inr (empty_slot (ap (slot_in m.meta p) is))
    of_object (Some ob) is = elim (cases_lt (slot_number m.meta ob.class p) (length (props_of m.meta ob.class))) [
      | inl l ↦ inl (record {
        class = ob.class;
        class_is = ap (option_map (λ (x : Object). x.class)) is;
        has = (slot_number m.meta ob.class p, l, index-found (props_of m.meta ob.class) p p l);
      })
      | inr le ↦ (let long = slotted ob is in inr (empty_slot (ap (slot_in m.meta p) is ∙ get_or_past ob.slots (slot_number m.meta ob.class p) no_slot (omega (arith, le, long)))))
    ]

one_is : (upper : Option ℕ) → is_one upper ≡ true → upper ≡ Some 1
one_is None e = absurd (true≢false (sym e))
one_is (Some n) e = let same : n ≡ 1 = grind (arith, nat_tests) in ap (λ k. Some k) same

-- at a single property an object of a valid model holds one thing at most
pub few_held : (program : Program) (m : ModelData) (o p : ℕ) → Valid m → is_one (prop_at m.meta p).upper ≡ true → length (held_in program m o p) ≤ 1
few_held program m o p valid single = subst (λ n. n ≤ 1) (sym (held_count program m o p)) (by (counted_at m o p (λ ob is. (valid.kept.objects o ob is).slots)))
  where
    by : IsPropertyOf m o p ⊎ (count_at m o p ≡ 0) → count_at m o p ≤ 1
    by (inr e) = omega (arith, e)
    by (inl property) = elim (cases_lt 1 (count_at m o p)) [
      | inr le ↦ le
      | inl above ↦ absurd ((valid.bounds o p).upper (record { property = property; bound = 1; bound_is = one_is (prop_at m.meta p).upper single; above = above }))
    ]
