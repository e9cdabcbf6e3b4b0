-- What is claimed of a slot stands in it, in the model that enforcement makes.
use Rattle.std.specs.Prelude.{◌≡◌, ◌<◌, ℕ, zero, suc, Bool, true, false, ◌||◌, not, List, [], ◌∷◌, map, length, Option, None, Some, Contains, if◌then◌else◌}
use Rattle.std.specs.List.{filter_map, cons_option, list_any}
use Rattle.std.specs.FinMap.{nat_cmp-IsAntisymmetric}
use Rattle.std.specs.Ordering.{is_eq, match_ordering}
use Rattle.std.specs.declared.cmp.Ordering.{Ordering}
use Rattle.std.specs.declared.cmp.Ordering.TheVariants.{Less, Equal, Greater}
use Rattle.std.proofs.Common.{refl, ap, sym, ◌∙◌, subst, arith, true≢false, get_or}
use Rattle.std.proofs.lemmas.Bool.Decides.{nat_tests}
use Rattle.std.proofs.lemmas.List.{get_or-map}
use Rattle.std.proofs.lemmas.List.Folds.{list_any-append}
use Rattle.mof_metamodel.specs.Metamodels.{props_of, type_of}
use Rattle.object_tables.specs.declared.value.Value.{Value}
use Rattle.object_tables.specs.Objects.{Object, Slot}
use Rattle.object_tables.specs.Models.{ModelData, object_at, is_class_type, slot_in, index_of, no_slot, values_at, partners_at}
use Rattle.object_tables.proofs.ModelLemmas.{index-within, index-found}
use Rattle.object_tables.proofs.SlotLemmas.{Contains-to_filter}
use Rattle.qv_syntax.specs.declared.program.Program.{Program}
use Rattle.qvtr_semantics.specs.declared.datum.Datum.{Datum}
use Rattle.qvtr_semantics.specs.Data.{same_datum}
use Rattle.qvtr_semantics.specs.Objects.{value_datum}
use Rattle.qvtr_semantics.specs.Outs.{value_of_datum}
use Rattle.ocl_eval.specs.OrderLaws.{ties_where_same, same_decides}
use Rattle.repair_semantics.specs.Terms.{placed_by, each_once}
use Rattle.repair_semantics.specs.TargetItems.{target_meta_number}
use Rattle.repair_semantics.specs.Claims.{Held, Claim, same_held}
use Rattle.repair_semantics.specs.Images.{same_number, holds}
use Rattle.repair_semantics.specs.Candidates.{claimed_at, held_order, kept_at, others_than, with_claimed, contents_at, value_held, partner_held, slot_with, slots_of}
use Rattle.repair_laws.specs.Standing.{FitsAt}
use Rattle.std.proofs.lemmas.Bool.{or_right}

module _ {X : Type 0} (order : X → X → Ordering) (test : X → Bool) (respects : (y z : X) → order y z ≡ Equal → test y ≡ true → test z ≡ true) where
  placed_new : (x : X) (ys : List X) → test x ≡ true → list_any test (placed_by order x ys) ≡ true
  placed_new x [] h = ap (λ b. b || false) h
  placed_new x (y ∷ ys) h = by (order x y) refl (placed_new x ys h)
    where
      by : (o : Ordering) → order x y ≡ o → list_any test (placed_by order x ys) ≡ true
          → list_any test (match_ordering o (x ∷ y ∷ ys) (y ∷ ys) (y ∷ placed_by order x ys)) ≡ true
      by Less is later = ap (λ b. b || list_any test (y ∷ ys)) h
      by Equal is later = ap (λ b. b || list_any test ys) (respects x y is h)
      by Greater is later = or_right (test y) (list_any test (placed_by order x ys)) later

  placed_keeps : (x : X) (ys : List X) → list_any test ys ≡ true → list_any test (placed_by order x ys) ≡ true
  placed_keeps x [] h = absurd (true≢false (sym h))
  placed_keeps x (y ∷ ys) h = by (order x y) (placed_keeps x ys)
    where
      behind : (b : Bool) → (list_any test ys ≡ true → list_any test (placed_by order x ys) ≡ true) → (b || list_any test ys) ≡ true → (b || list_any test (placed_by order x ys)) ≡ true
      behind true later g = refl
      behind false later g = later g

      by : (o : Ordering) → (list_any test ys ≡ true → list_any test (placed_by order x ys) ≡ true)
          → list_any test (match_ordering o (x ∷ y ∷ ys) (y ∷ ys) (y ∷ placed_by order x ys)) ≡ true
      by Less later = or_right (test x) (list_any test (y ∷ ys)) h
      by Equal later = h
      by Greater later = behind (test y) later h

  pub once_keeps : (xs : List X) (k : ℕ) (x : X) → k < length xs → get_or xs k x ≡ x → test x ≡ true → list_any test (each_once order xs) ≡ true
  once_keeps [] k x within is h = absurd (omega (arith, within))
  once_keeps (y ∷ ys) zero x within is h = placed_new y (each_once order ys) (subst (λ z. test z ≡ true) (sym is) h)
  once_keeps (y ∷ ys) (suc k) x within is h = placed_keeps y (each_once order ys) (once_keeps ys k x (omega (arith, within)) is h)

-- ---- what ties in a slot is one

held_ties : (h i : Held ℕ) → held_order h i ≡ Equal → h ≡ i
held_ties (Held.datum d) (Held.datum e) t = ap (λ z. Held.datum z) ((same_decides d e).0 (ties_where_same d e ∙ ap is_eq t))
held_ties (Held.datum d) (Held.object b) t = absurd (cc)
held_ties (Held.object a) (Held.datum e) t = absurd (cc)
held_ties (Held.object a) (Held.object b) t = ap (λ z. Held.object z) (nat_cmp-IsAntisymmetric a b t)

same_datum_self : (d : Datum) → same_datum d d ≡ true
same_datum_self d = (same_decides d d).1 refl

same_self : (h : Held ℕ) → same_held same_number h h ≡ true
same_self (Held.datum d) = same_datum_self d
same_self (Held.object b) = grind (arith, nat_tests)

abbrev is_it : Held ℕ → Held ℕ → Bool
is_it h i = same_held same_number h i

-- ---- what is claimed is in the contents of the slot

claimed_in : (kept claimed : List (Held ℕ)) (h : Held ℕ) → Contains claimed h → list_any (is_it h) (with_claimed kept claimed) ≡ true
claimed_in kept claimed h has = list_any-append (is_it h) kept (each_once held_order (others_than kept claimed)) ∙ by (list_any (is_it h) kept) refl
  where
    by : (b : Bool) → list_any (is_it h) kept ≡ b → (b || list_any (is_it h) (each_once held_order (others_than kept claimed))) ≡ true
    by true is = refl
    by false is =
        let left : Contains (others_than kept claimed) h = Contains-to_filter (λ i. not (list_any (is_it i) kept)) claimed h (ap not is) has in
        once_keeps held_order (is_it h) (λ y z t s. subst (λ x. is_it h x ≡ true) (held_ties y z t) s) (others_than kept claimed) left.0 h left.1 left.2 (same_self h)

-- ---- slots hold their contents

partners_hold : (b : ℕ) (hs : List (Held ℕ)) → list_any (is_it (Held.object b)) (map (λ c. Held.object c) (filter_map partner_held hs)) ≡ list_any (is_it (Held.object b)) hs
partners_hold b [] = refl
partners_hold b (Held.datum d ∷ hs) = partners_hold b hs
partners_hold b (Held.object c ∷ hs) = ap (λ x. is_it (Held.object b) (Held.object c) || x) (partners_hold b hs)

module _ (number : ℕ) (d : Datum) (v : Value) (is_value : value_of_datum d ≡ Some v) (seen : value_datum number v ≡ d) where
  abbrev seen_as : Value → Held ℕ
  seen_as w = Held.datum (value_datum number w)

  values_hold : (hs : List (Held ℕ)) → list_any (is_it (Held.datum d)) hs ≡ true → list_any (is_it (Held.datum d)) (map seen_as (filter_map value_held hs)) ≡ true
  values_hold [] h = absurd (true≢false (sym h))
  values_hold (Held.object b ∷ hs) h = values_hold hs h
  values_hold (Held.datum e ∷ hs) h = by (same_datum d e) refl (values_hold hs) h
    where
      other : (x : Option Value) → list_any (is_it (Held.datum d)) (map seen_as (filter_map value_held hs)) ≡ true
          → list_any (is_it (Held.datum d)) (map seen_as (cons_option x (filter_map value_held hs))) ≡ true
      other None later = later
      other (Some w) later = or_right (is_it (Held.datum d) (seen_as w)) (list_any (is_it (Held.datum d)) (map seen_as (filter_map value_held hs))) later

      by : (b : Bool) → same_datum d e ≡ b → (list_any (is_it (Held.datum d)) hs ≡ true → list_any (is_it (Held.datum d)) (map seen_as (filter_map value_held hs)) ≡ true)
          → (b || list_any (is_it (Held.datum d)) hs) ≡ true → list_any (is_it (Held.datum d)) (map seen_as (cons_option (value_of_datum e) (filter_map value_held hs))) ≡ true
      by true is later g =
          let same : d ≡ e = (same_decides d e).0 is in
          ap (λ x. list_any (is_it (Held.datum d)) (map seen_as (cons_option x (filter_map value_held hs)))) (ap value_of_datum (sym same) ∙ is_value)
          ∙ ap (λ b. b || list_any (is_it (Held.datum d)) (map seen_as (filter_map value_held hs))) (ap (same_datum d) seen ∙ same_datum_self d)
      by false is later g = other (value_of_datum e) (later g)

-- ---- what is claimed of a slot stands in it

module _ (program : Program) (m n : ModelData) (live : ℕ → Bool) (claims : List (Claim ℕ)) where
  slot_is : (o p class : ℕ) → Contains (props_of m.meta class) p
      → get_or (slots_of program m live claims o class) (index_of (props_of m.meta class) p) no_slot ≡ slot_with (contents_at program m live claims o p)
  slot_is o p class has =
      let within : index_of (props_of m.meta class) p < length (props_of m.meta class) = index-within (props_of m.meta class) p has in
      get_or-map (λ q. slot_with (contents_at program m live claims o q)) (props_of m.meta class) (index_of (props_of m.meta class) p) p no_slot within
      ∙ ap (λ q. slot_with (contents_at program m live claims o q)) (index-found (props_of m.meta class) p p within)

  slot_stands : (o p : ℕ) (ob : Object) → n.meta ≡ m.meta → object_at n o ≡ Some ob → ob.slots ≡ slots_of program m live claims o ob.class → Contains (props_of m.meta ob.class) p
      → slot_in n.meta p (object_at n o) ≡ slot_with (contents_at program m live claims o p)
  slot_stands o p ob meta is slots has =
      ap (λ d. slot_in d p (object_at n o)) meta ∙ ap (slot_in m.meta p) is ∙ ap (λ ss. get_or ss (index_of (props_of m.meta ob.class) p) no_slot) slots ∙ slot_is o p ob.class has

  pub claim_stands : (o p : ℕ) (ob : Object) (h : Held ℕ) → n.meta ≡ m.meta → object_at n o ≡ Some ob → ob.slots ≡ slots_of program m live claims o ob.class
      → Contains (props_of m.meta ob.class) p → Contains (claimed_at claims o p) h → FitsAt program m p h → holds program n o p h ≡ true
  claim_stands o p ob h meta is slots has claimed fits = by h claimed fits
    where
      slot : slot_in n.meta p (object_at n o) ≡ slot_with (contents_at program m live claims o p)
      slot = slot_stands o p ob meta is slots has

      by : (i : Held ℕ) → Contains (claimed_at claims o p) i → FitsAt program m p i → holds program n o p i ≡ true
      by _ c (FitsAt.object b reference) =
          ap (λ t. list_any (is_it (Held.object b)) (if t then map (λ k. Held.object k) (partners_at n o p) else map (λ v. Held.datum (value_datum (target_meta_number program) v)) (values_at n o p)))
          (ap (λ e. is_class_type (type_of e p)) meta ∙ reference)
          ∙ ap (λ (s : Slot). list_any (is_it (Held.object b)) (map (λ k. Held.object k) s.partners)) slot
          ∙ partners_hold b (contents_at program m live claims o p)
          ∙ claimed_in (kept_at program m live claims o p) (claimed_at claims o p) (Held.object b) c
      by _ c (FitsAt.datum d v attribute value seen) =
          ap (λ t. list_any (is_it (Held.datum d)) (if t then map (λ k. Held.object k) (partners_at n o p) else map (λ w. Held.datum (value_datum (target_meta_number program) w)) (values_at n o p)))
          (ap (λ e. is_class_type (type_of e p)) meta ∙ attribute)
          ∙ ap (λ (s : Slot). list_any (is_it (Held.datum d)) (map (λ w. Held.datum (value_datum (target_meta_number program) w)) s.values)) slot
          ∙ values_hold (target_meta_number program) d v value seen (contents_at program m live claims o p)
          (claimed_in (kept_at program m live claims o p) (claimed_at claims o p) (Held.datum d) c)
