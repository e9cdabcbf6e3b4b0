-- A model that is given sorted values has at each attribute those of the list, each once, and is else as it was.
use Rattle.std.proofs.Common.{◌≡◌, ◌≢◌, ℕ, zero, suc, ◌+◌, ◌<◌, ◌≤◌, ◌⊎◌, Bool, true, false, cond, List, [], ◌∷◌, length, drop, refl, sym, ◌∙◌, ap, arith, subst, Some, None, inl, inr, true≢false}
use Rattle.std.specs.Prelude.{◌==◌, ◌&&◌, ◌||◌, not, All, AllPairs, IsTrue}
use Rattle.std.specs.List.{filter_map, cons_option, list_any}
use Rattle.std.proofs.lemmas.Bool.{eqb-true, eq-eqb, and_parts, and_from, or_parts, not-true, not-false, cases_lt}
use Rattle.std.proofs.lemmas.List.Elements.{All-cons, All-head, All-tail, All-nil, All-weaker, All-drop}
use Rattle.std.proofs.lemmas.List.Kept.{AllPairs-cons}
use Rattle.mof_metamodel.specs.declared.desc.MetaDesc.{MetaDesc}
use Rattle.mof_metamodel.specs.Metamodels.{type_of}
use Rattle.object_tables.specs.declared.value.Value.{Value}
use Rattle.object_tables.specs.Kept.{Kept}
use Rattle.object_tables.specs.Models.{ModelData, class_at, id_at, values_at, partners_at, with_values, is_value_of, IsAttributeOf, IsSlotOf}
use Rattle.object_tables.specs.Objects.{Slot}
use Rattle.object_tables.proofs.KeptEdits.{kept_with_values}
use Rattle.object_tables.proofs.KeptLemmas.{sound_of, slotted_of}
use Rattle.object_tables.proofs.ListLemmas.{length-update_at}
use Rattle.object_tables.proofs.SlotLemmas.{slot_at, class-with_slot, id-with_slot, slot_cases, slot_here}
use Rattle.model_assembly.specs.declared.filed.WrittenValue.{WrittenValue}
use Rattle.model_assembly.specs.AssemblyValueLaws.{value_itself}
use Rattle.model_assembly.specs.AssemblyValues.{run, no_written, written_at, slot_at as slot_from, is_next, is_begin, valued, MayStand, IsSortedValues, AreValuesOf, IsValuedTo}
use Rattle.model_assembly.specs.Filed.{filed_values}
use Rattle.model_assembly.specs.Source.{is_at}
use Rattle.model_assembly.specs.Values.{same_value, unmet, without_repeats}

-- ---- values each once

unmet_all : (P : Value → Type 0) (met vs : List Value) → All P vs → All P (unmet met vs)
unmet_all P met [] h = h
unmet_all P met (v ∷ vs) h = by (list_any (same_value v) met) (unmet_all P met vs (All-tail P v vs h)) (unmet_all P (v ∷ met) vs (All-tail P v vs h))
  where
    by : (b : Bool) → All P (unmet met vs) → All P (unmet (v ∷ met) vs) → All P (cond b (unmet met vs) (v ∷ unmet (v ∷ met) vs))
    by true a b = a
    by false a b = All-cons P v (unmet (v ∷ met) vs) (All-head P v vs h) b

unmet_new : (met vs : List Value) → All (λ w. list_any (same_value w) met ≡ false) (unmet met vs)
unmet_new met [] = All-nil (λ w. list_any (same_value w) met ≡ false)
unmet_new met (v ∷ vs) = by (list_any (same_value v) met) refl (unmet_new met vs) (unmet_new (v ∷ met) vs)
  where
    P : Value → Type 0
    P w = list_any (same_value w) met ≡ false

    by : (b : Bool) → list_any (same_value v) met ≡ b → All P (unmet met vs) → All (λ w. list_any (same_value w) (v ∷ met) ≡ false) (unmet (v ∷ met) vs) → All P (cond b (unmet met vs) (v ∷ unmet (v ∷ met) vs))
    by true e a b = a
    by false e a b = All-cons P v (unmet (v ∷ met) vs) e (All-weaker (λ w. list_any (same_value w) (v ∷ met) ≡ false) P (λ w h. (or_parts (same_value w v) (list_any (same_value w) met) h).1) (unmet (v ∷ met) vs) b)

unmet_apart : (met vs : List Value) → AllPairs (λ x y. x ≢ y) (unmet met vs)
unmet_apart met [] = λ i j d l k. absurd (omega (arith, k))
unmet_apart met (v ∷ vs) = by (list_any (same_value v) met) (unmet_apart met vs) (unmet_apart (v ∷ met) vs)
  where
    others : All (λ w. v ≢ w) (unmet (v ∷ met) vs)
    others = All-weaker (λ w. list_any (same_value w) (v ∷ met) ≡ false) (λ w. v ≢ w) apart (unmet (v ∷ met) vs) (unmet_new (v ∷ met) vs)
      where
        apart : (w : Value) → list_any (same_value w) (v ∷ met) ≡ false → v ≡ w → ⊥
        apart w h e = true≢false (sym (subst (λ x. same_value w x ≡ true) (sym e) (value_itself w)) ∙ (or_parts (same_value w v) (list_any (same_value w) met) h).0)

    by : (b : Bool) → AllPairs (λ x y. x ≢ y) (unmet met vs) → AllPairs (λ x y. x ≢ y) (unmet (v ∷ met) vs) → AllPairs (λ x y. x ≢ y) (cond b (unmet met vs) (v ∷ unmet (v ∷ met) vs))
    by true a b = a
    by false a b = AllPairs-cons (λ x y. x ≢ y) v (unmet (v ∷ met) vs) others b

IsTyped : MetaDesc → WrittenValue → Type 0
IsTyped meta v = is_value_of meta (type_of meta v.property.0) v.value ≡ true

run_typed : (meta : MetaDesc) (o p : ℕ) (vs : List WrittenValue) → All (λ (v : WrittenValue). is_value_of meta (type_of meta v.property.0) v.value ≡ true) vs
    → All (λ x. IsTrue (is_value_of meta (type_of meta p) x)) (run o p vs)
run_typed meta o p [] h = All-nil (λ x. IsTrue (is_value_of meta (type_of meta p) x))
run_typed meta o p (v ∷ vs) h = by (is_at o p v.object v.property.0) refl (run_typed meta o p vs (All-tail (λ (v : WrittenValue). is_value_of meta (type_of meta v.property.0) v.value ≡ true) v vs h))
  where
    P : Value → Type 0
    P x = IsTrue (is_value_of meta (type_of meta p) x)

    by : (b : Bool) → is_at o p v.object v.property.0 ≡ b → All P (run o p vs) → All P (cond b (v.value ∷ run o p vs) [])
    by true e rest =
        let property = eqb-true v.property.0 p (and_parts (v.object == o) (v.property.0 == p) e).1 in
        All-cons P v.value (run o p vs) (ap (λ q. is_value_of meta (type_of meta q) v.value) (sym property) ∙ All-head (λ (v : WrittenValue). is_value_of meta (type_of meta v.property.0) v.value ≡ true) v vs h) rest
    by false e rest = All-nil P

slot_typed : (meta : MetaDesc) (vs : List WrittenValue) (i : ℕ) → All (λ (v : WrittenValue). is_value_of meta (type_of meta v.property.0) v.value ≡ true) vs → IsSlotOf meta (written_at vs i).property.0 (slot_from vs i)
slot_typed meta vs i h =
    let o = (written_at vs i).object in
    let p = (written_at vs i).property.0 in
    record {
      typed = unmet_all (λ x. IsTrue (is_value_of meta (type_of meta p) x)) [] (run o p (drop i vs)) (run_typed meta o p (drop i vs) (All-drop (λ (v : WrittenValue). is_value_of meta (type_of meta v.property.0) v.value ≡ true) i vs h));
      distinct = unmet_apart [] (run o p (drop i vs));
    }

-- ---- values that stand together

pub none_filed : (o p : ℕ) (vs : List WrittenValue) → All (λ (v : WrittenValue). is_at o p v.object v.property.0 ≡ false) vs → filed_values vs o p ≡ []
none_filed o p [] h = refl
none_filed o p (v ∷ vs) h =
    ap (λ b. cons_option (cond b (Some v.value) None) (filed_values vs o p)) (All-head (λ (v : WrittenValue). is_at o p v.object v.property.0 ≡ false) v vs h)
    ∙ none_filed o p vs (All-tail (λ (v : WrittenValue). is_at o p v.object v.property.0 ≡ false) v vs h)

-- behind a value at another attribute there is none at this one
abbrev Stops : ℕ → ℕ → List WrittenValue → Type 0
Stops o p vs = (j k : ℕ) → j < k → k < length vs → is_at o p (written_at vs j).object (written_at vs j).property.0 ≡ false → is_at o p (written_at vs k).object (written_at vs k).property.0 ≡ false

run_whole : (o p : ℕ) (vs : List WrittenValue) → Stops o p vs → run o p vs ≡ filed_values vs o p
run_whole o p [] h = refl
run_whole o p (v ∷ vs) h = by (is_at o p v.object v.property.0) refl (run_whole o p vs (λ j k l m. h (suc j) (suc k) (omega (arith, l)) (omega (arith, m))))
  where
    by : (b : Bool) → is_at o p v.object v.property.0 ≡ b → run o p vs ≡ filed_values vs o p → cond b (v.value ∷ run o p vs) [] ≡ cons_option (cond b (Some v.value) None) (filed_values vs o p)
    by true e rest = ap (λ xs. v.value ∷ xs) rest
    by false e rest = sym (none_filed o p vs none)
      where
        none : All (λ (v : WrittenValue). is_at o p v.object v.property.0 ≡ false) vs
        none k d l =
            let same = Rattle.std.proofs.lemmas.List.get_or_default vs k no_written d l in
            subst (λ (w : WrittenValue). is_at o p w.object w.property.0 ≡ false) same (h 0 (suc k) (omega arith) (omega (arith, l)) e)

filed_behind : (o p : ℕ) (vs : List WrittenValue) (i : ℕ) → ((j : ℕ) → j < i → j < length vs → is_at o p (written_at vs j).object (written_at vs j).property.0 ≡ false) → filed_values vs o p ≡ filed_values (drop i vs) o p
filed_behind o p [] zero h = refl
filed_behind o p [] (suc i) h = refl
filed_behind o p (v ∷ vs) zero h = refl
filed_behind o p (v ∷ vs) (suc i) h =
    ap (λ b. cons_option (cond b (Some v.value) None) (filed_values vs o p)) (h 0 (omega arith) (omega arith))
    ∙ filed_behind o p vs i (λ j l k. h (suc j) (omega (arith, l)) (omega (arith, k)))

drop_at_place : (vs : List WrittenValue) (i j : ℕ) → written_at (drop i vs) j ≡ written_at vs (i + j)
drop_at_place vs i j = Rattle.std.proofs.lemmas.List.get_or-drop i vs j no_written

next_same : (v w : WrittenValue) → is_next v w ≡ true → (w.object ≡ v.object) × (w.property.0 ≡ v.property.0)
next_same v w e = let x = and_parts (w.object == v.object) (w.property.0 == v.property.0) e in (eqb-true w.object v.object x.0, eqb-true w.property.0 v.property.0 x.1)

same_next : (v w : WrittenValue) → w.object ≡ v.object → w.property.0 ≡ v.property.0 → is_next v w ≡ true
same_next v w e g = and_from (w.object == v.object) (w.property.0 == v.property.0) (eq-eqb w.object v.object e) (eq-eqb w.property.0 v.property.0 g)

-- the first of the values that stand together is the first of its attribute
none_before : (xs vs : List WrittenValue) → IsSortedValues xs vs → (i : ℕ) → i < length vs → is_begin vs i ≡ true → (j : ℕ) → j < i → is_next (written_at vs i) (written_at vs j) ≡ false
none_before xs vs h zero l e j k = absurd (omega (arith, k))
none_before xs vs h (suc n) l e j k = by (is_next (written_at vs (suc n)) (written_at vs j)) refl
  where
    at_last : is_next (written_at vs n) (written_at vs (suc n)) ≡ true → is_next (written_at vs (suc n)) (written_at vs j) ≡ false
    at_last t = absurd (true≢false (sym t ∙ not-true _ e))

    by : (b : Bool) → is_next (written_at vs (suc n)) (written_at vs j) ≡ b → is_next (written_at vs (suc n)) (written_at vs j) ≡ false
    by false t = t
    by true t = elim (cases_lt j n) [
      | inr le ↦ (
          let q : j ≡ n = omega (arith, le, k) in
          let key = next_same (written_at vs (suc n)) (written_at vs j) t in
          at_last (same_next (written_at vs n) (written_at vs (suc n)) (sym key.0 ∙ ap (λ m. (written_at vs m).object) q) (sym key.1 ∙ ap (λ m. (written_at vs m).property.0) q)))
      | inl lt ↦ (
          let key = next_same (written_at vs (suc n)) (written_at vs j) t in
          let mid = next_same (written_at vs j) (written_at vs n) (h.together j n (suc n) lt (omega arith) l (same_next (written_at vs j) (written_at vs (suc n)) (sym key.0) (sym key.1))) in
          at_last (same_next (written_at vs n) (written_at vs (suc n)) (sym key.0 ∙ sym mid.0) (sym key.1 ∙ sym mid.1)))
    ]

begin_whole : (xs vs : List WrittenValue) → IsSortedValues xs vs → (i : ℕ) → i < length vs → is_begin vs i ≡ true
    → slot_from vs i ≡ without_repeats (filed_values vs (written_at vs i).object (written_at vs i).property.0)
begin_whole xs vs h i l e = ap without_repeats (run_whole o p (drop i vs) stops ∙ sym (filed_behind o p vs i (λ j k m. none_before xs vs h i l e j k)))
  where
    o : ℕ
    o = (written_at vs i).object

    p : ℕ
    p = (written_at vs i).property.0

    size : length (drop i vs) + i ≡ length vs
    size = let d = Rattle.std.proofs.lemmas.List.length-drop i vs in omega (arith, d, l)

    later : (j k : ℕ) → j < k → k < length (drop i vs) → is_next (written_at vs i) (written_at vs (i + j)) ≡ false → is_next (written_at vs i) (written_at vs (i + k)) ≡ false
    later zero k lt m f = absurd (true≢false (sym (same_next (written_at vs i) (written_at vs (i + 0)) (ap (λ z. (written_at vs z).object) q) (ap (λ z. (written_at vs z).property.0) q)) ∙ f))
      where
        q : i + 0 ≡ i
        q = omega arith
    later (suc j) k lt m f = by (is_next (written_at vs i) (written_at vs (i + k))) refl
      where
        by : (b : Bool) → is_next (written_at vs i) (written_at vs (i + k)) ≡ b → is_next (written_at vs i) (written_at vs (i + k)) ≡ false
        by false t = t
        by true t = absurd (true≢false (sym (h.together i (i + suc j) (i + k) (omega arith) (omega (arith, lt)) (omega (arith, m, size)) t) ∙ f))

    stops : Stops o p (drop i vs)
    stops j k lt m f =
        ap (λ (w : WrittenValue). is_next (written_at vs i) w) (drop_at_place vs i k)
        ∙ later j k lt m (sym (ap (λ (w : WrittenValue). is_next (written_at vs i) w) (drop_at_place vs i j)) ∙ f)

-- ---- the model

like_itself : (m : ModelData) → Kept m → (vs : List WrittenValue) → IsValuedTo m vs 0 m
like_itself m k vs = record {
  meta = refl;
  count = refl;
  classes = λ o. refl;
  ids = λ o. refl;
  partners = λ o p. refl;
  kept = k;
  set = λ j l. absurd (omega (arith, l));
  unset = λ o p h. refl;
}

attribute_like : (m n : ModelData) → n.meta ≡ m.meta → ((o : ℕ) → class_at n o ≡ class_at m o) → (o p : ℕ) → IsAttributeOf m o p → IsAttributeOf n o p
attribute_like m n e c o p a = record {
  class = a.class;
  class_is = c o ∙ a.class_is;
  has = subst (λ d. Rattle.std.specs.Prelude.Contains (Rattle.mof_metamodel.specs.Metamodels.props_of d a.class) p) (sym e) a.has;
  attribute = ap (λ d. Rattle.object_tables.specs.Models.is_class_type (type_of d p)) e ∙ a.attribute;
}

pub may_stand : (xs vs : List WrittenValue) (m n : ModelData) (i : ℕ) → AreValuesOf m vs → IsValuedTo m vs i n → i < length vs → MayStand n vs i
may_stand xs vs m n i h v l = record {
  attribute = attribute_like m n v.meta v.classes (written_at vs i).object (written_at vs i).property.0 (h.attributes i no_written l);
  slot = subst (λ d. IsSlotOf d (written_at vs i).property.0 (slot_from vs i)) (sym v.meta) (slot_typed m.meta vs i h.typed);
}

step_begin : (xs vs : List WrittenValue) (m n : ModelData) (i : ℕ) → IsSortedValues xs vs → AreValuesOf m vs → IsValuedTo m vs i n → i < length vs → is_begin vs i ≡ true
    → IsValuedTo m vs (suc i) (with_values n (written_at vs i).object (written_at vs i).property.0 (slot_from vs i))
step_begin xs vs m n i sorted h v l e = record {
  meta = v.meta;
  count = length-update_at n.objects o _ ∙ v.count;
  classes = λ a. class-with_slot n o p f a ∙ v.classes a;
  ids = λ a. id-with_slot n o p f a ∙ v.ids a;
  partners = λ a q. partners a q (slot_cases n o p f a q slotted) ∙ v.partners a q;
  kept = kept_with_values n o p slot v.kept may.attribute may.slot;
  set = set;
  unset = unset;
}
  where
    o : ℕ
    o = (written_at vs i).object

    p : ℕ
    p = (written_at vs i).property.0

    slot : List Value
    slot = slot_from vs i

    f : Slot → Slot
    f s = record s { values = slot }

    new : ModelData
    new = with_values n o p slot

    may : MayStand n vs i
    may = may_stand xs vs m n i h v l

    slotted : Rattle.object_tables.proofs.SlotLemmas.IsSlotted n
    slotted = slotted_of n (sound_of n v.kept)

    partners : (a q : ℕ) → (slot_at new a q ≡ slot_at n a q) ⊎ ((a ≡ o) × (q ≡ p) × (slot_at new a q ≡ f (slot_at n a q))) → partners_at new a q ≡ partners_at n a q
    partners a q (inl s) = ap (λ (s : Slot). s.partners) s
    partners a q (inr (x, y, s)) = ap (λ (s : Slot). s.partners) s

    here : values_at new o p ≡ slot
    here = ap (λ (s : Slot). s.values) (slot_here n o p may.attribute.class f slotted may.attribute.class_is may.attribute.has)

    whole : slot ≡ without_repeats (filed_values vs o p)
    whole = begin_whole xs vs sorted i l e

    set : (j : ℕ) → j < suc i → values_at new (written_at vs j).object (written_at vs j).property.0 ≡ without_repeats (filed_values vs (written_at vs j).object (written_at vs j).property.0)
    set j k = by (cases_lt j i)
      where
        a : ℕ
        a = (written_at vs j).object

        q : ℕ
        q = (written_at vs j).property.0

        over : j < i → (slot_at new a q ≡ slot_at n a q) ⊎ ((a ≡ o) × (q ≡ p) × (slot_at new a q ≡ f (slot_at n a q))) → values_at new a q ≡ without_repeats (filed_values vs a q)
        over z (inl s) = ap (λ (s : Slot). s.values) s ∙ v.set j z
        over z (inr (x, y, s)) = ap (λ (s : Slot). s.values) s ∙ whole ∙ (λ t. without_repeats (filed_values vs (sym x t) (sym y t)))

        by : (j < i) ⊎ (i ≤ j) → values_at new a q ≡ without_repeats (filed_values vs a q)
        by (inl z) = over z (slot_cases n o p f a q slotted)
        by (inr z) =
            let same : i ≡ j = omega (arith, z, k) in
            subst (λ t. values_at new (written_at vs t).object (written_at vs t).property.0 ≡ without_repeats (filed_values vs (written_at vs t).object (written_at vs t).property.0)) same (here ∙ whole)

    unset : (a q : ℕ) → ((j : ℕ) → j < suc i → is_at a q (written_at vs j).object (written_at vs j).property.0 ≡ false) → values_at new a q ≡ values_at m a q
    unset a q g = by (slot_cases n o p f a q slotted)
      where
        by : (slot_at new a q ≡ slot_at n a q) ⊎ ((a ≡ o) × (q ≡ p) × (slot_at new a q ≡ f (slot_at n a q))) → values_at new a q ≡ values_at m a q
        by (inl s) = ap (λ (s : Slot). s.values) s ∙ v.unset a q (λ j k. g j (omega (arith, k)))
        by (inr (x, y, s)) = absurd (true≢false (sym (and_from (o == a) (p == q) (eq-eqb o a (sym x)) (eq-eqb p q (sym y))) ∙ g i (omega arith)))

step_more : (vs : List WrittenValue) (m n : ModelData) (i : ℕ) → IsValuedTo m vs i n → is_begin vs i ≡ false → IsValuedTo m vs (suc i) n
step_more vs m n zero v e = absurd (true≢false e)
step_more vs m n (suc i) v e = record {
  meta = v.meta;
  count = v.count;
  classes = v.classes;
  ids = v.ids;
  partners = v.partners;
  kept = v.kept;
  set = set;
  unset = λ a q g. v.unset a q (λ j k. g j (omega (arith, k)));
}
  where
    key : ((written_at vs (suc i)).object ≡ (written_at vs i).object) × ((written_at vs (suc i)).property.0 ≡ (written_at vs i).property.0)
    key = next_same (written_at vs i) (written_at vs (suc i)) (not-false _ e)

    set : (j : ℕ) → j < suc (suc i) → values_at n (written_at vs j).object (written_at vs j).property.0 ≡ without_repeats (filed_values vs (written_at vs j).object (written_at vs j).property.0)
    set j k = elim (cases_lt j (suc i)) [
      | inl z ↦ v.set j z
      | inr z ↦ (
          let same : suc i ≡ j = omega (arith, z, k) in
          subst (λ t. values_at n (written_at vs t).object (written_at vs t).property.0 ≡ without_repeats (filed_values vs (written_at vs t).object (written_at vs t).property.0)) same
          (subst (λ a. values_at n a (written_at vs (suc i)).property.0 ≡ without_repeats (filed_values vs a (written_at vs (suc i)).property.0)) (sym key.0)
          (subst (λ q. values_at n (written_at vs i).object q ≡ without_repeats (filed_values vs (written_at vs i).object q)) (sym key.1) (v.set i (omega arith)))))
    ]

-- the values so far are put
pub valued_to : (xs vs : List WrittenValue) (m : ModelData) → IsSortedValues xs vs → AreValuesOf m vs → Kept m → (i : ℕ) → i ≤ length vs → IsValuedTo m vs i (valued m vs i)
valued_to xs vs m sorted h k zero l = like_itself m k vs
valued_to xs vs m sorted h k (suc i) l = by (is_begin vs i) refl (valued_to xs vs m sorted h k i (omega (arith, l)))
  where
    n : ModelData
    n = valued m vs i

    by : (b : Bool) → is_begin vs i ≡ b → IsValuedTo m vs i n → IsValuedTo m vs (suc i) (cond b (with_values n (written_at vs i).object (written_at vs i).property.0 (slot_from vs i)) n)
    by true e v = step_begin xs vs m n i sorted h v (omega (arith, l)) e
    by false e v = step_more vs m n i v e
