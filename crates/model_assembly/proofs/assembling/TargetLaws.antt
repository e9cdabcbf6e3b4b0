-- Sorted namings of one reference stand together, and so all of them from the first one on.
use Rattle.std.proofs.Common.{◌≡◌, ℕ, zero, suc, ◌+◌, ◌-◌, ◌<◌, ◌≤◌, Bool, true, false, cond, List, [], ◌∷◌, length, drop, refl, sym, ◌∙◌, ap, arith, subst, inl, inr, true≢false}
use Rattle.std.specs.Prelude.{◌==◌, ◌&&◌, ◌||◌, nat_eq, All}
use Rattle.std.specs.List.{list_any}
use Rattle.std.proofs.lemmas.Bool.{eqb-true, eq-eqb, and_parts, and_from, not-true, cases_lt}
use Rattle.std.proofs.lemmas.Cmp.{nat_eq_equiv}
use Rattle.std.proofs.lemmas.List.Elements.{All-head, All-tail}
use Rattle.mof_metamodel.specs.declared.desc.MetaDesc.{MetaDesc}
use Rattle.mof_metamodel.specs.Metamodels.{united, props_of}
use Rattle.object_tables.specs.Models.{slot_number}
use Rattle.object_tables.proofs.ModelLemmas.{index-within, index-same}
use Rattle.model_assembly.specs.declared.filed.Filed.{Filed}
use Rattle.model_assembly.specs.declared.assembly.entry.Entry.{Entry}
use Rattle.model_assembly.specs.declared.assembly.naming.Naming.{Naming}
use Rattle.model_assembly.specs.AssemblyEntries.{class_in, entry_at, entries_from, no_entry}
use Rattle.model_assembly.specs.AssemblyFirsts.{same_naming}
use Rattle.model_assembly.specs.AssemblyNamings.{naming, naming_of, at}
use Rattle.model_assembly.specs.AssemblyOrders.{targets, targets_run, distinct_targets, named_from, is_first}
use Rattle.model_assembly.specs.AssemblyReferences.{MayBeAssembled, AreNamed}
use Rattle.model_assembly.specs.Source.{is_at}
use Rattle.model_assembly.proofs.assembling.SpotLaws.{IsGood, places_rise}
use Rattle.model_assembly.proofs.assembling.NameLaws.{united_any}
use Rattle.model_assembly.proofs.assembling.PartLaws.{at_entry, length-map_of}
use Rattle.model_assembly.proofs.assembling.ToldLaws.{all_good}

-- whether two namings stand at one reference
abbrev pub is_next : Naming → Naming → Bool
is_next a b = is_at a.object a.property b.object b.property

-- between two namings of a reference there are no others
abbrev pub AreTogether : List Naming → Type 0
AreTogether xs = (i j k : ℕ) → i < j → j < k → k < length xs → is_next (at xs i) (at xs k) ≡ true → is_next (at xs i) (at xs j) ≡ true

pub next_same : (v w : Naming) → is_next v w ≡ true → (w.object ≡ v.object) × (w.property ≡ v.property)
next_same v w e = let x = and_parts (w.object == v.object) (w.property == v.property) e in (eqb-true w.object v.object x.0, eqb-true w.property v.property x.1)

pub same_next : (v w : Naming) → w.object ≡ v.object → w.property ≡ v.property → is_next v w ≡ true
same_next v w e g = and_from (w.object == v.object) (w.property == v.property) (eq-eqb w.object v.object e) (eq-eqb w.property v.property g)

-- ---- what is named, and the namings

and_turn : (a b c : Bool) → (a && (b && c)) ≡ ((a && b) && c)
and_turn true b c = refl
and_turn false b c = refl

same_is : (o p q : ℕ) (n : Naming) → same_naming (naming o p q) n ≡ (is_at o p n.object n.property && nat_eq q n.target)
same_is o p q n = (λ i. nat_eq_equiv.symm o n.object i && (nat_eq_equiv.symm p n.property i && nat_eq q n.target)) ∙ and_turn (n.object == o) (n.property == p) (nat_eq q n.target)

targets_has : (o p q : ℕ) (xs : List Naming) → list_any (nat_eq q) (targets o p xs) ≡ list_any (same_naming (naming o p q)) xs
targets_has o p q [] = refl
targets_has o p q (n ∷ ns) = by (is_at o p n.object n.property) (targets_has o p q ns) ∙ sym (ap (λ t. t || list_any (same_naming (naming o p q)) ns) (same_is o p q n))
  where
    by : (b : Bool) → list_any (nat_eq q) (targets o p ns) ≡ list_any (same_naming (naming o p q)) ns
        → list_any (nat_eq q) (cond b (n.target ∷ targets o p ns) (targets o p ns)) ≡ ((b && nat_eq q n.target) || list_any (same_naming (naming o p q)) ns)
    by true rest = ap (λ t. nat_eq q n.target || t) rest
    by false rest = rest

-- an object is among what is named where a naming names it
pub distinct_has : (xs : List Naming) (o p q : ℕ) → list_any (nat_eq q) (distinct_targets xs o p) ≡ list_any (same_naming (naming o p q)) xs
distinct_has xs o p q = united_any q (targets o p xs) ∙ targets_has o p q xs

-- ---- namings that stand together

pub none_named : (o p : ℕ) (xs : List Naming) → All (λ (n : Naming). is_at o p n.object n.property ≡ false) xs → targets o p xs ≡ []
none_named o p [] h = refl
none_named o p (n ∷ ns) h =
    ap (λ b. cond b (n.target ∷ targets o p ns) (targets o p ns)) (All-head (λ (n : Naming). is_at o p n.object n.property ≡ false) n ns h)
    ∙ none_named o p ns (All-tail (λ (n : Naming). is_at o p n.object n.property ≡ false) n ns h)

-- behind a naming at another reference there is none at this one
abbrev Stops : ℕ → ℕ → List Naming → Type 0
Stops o p xs = (j k : ℕ) → j < k → k < length xs → is_at o p (at xs j).object (at xs j).property ≡ false → is_at o p (at xs k).object (at xs k).property ≡ false

run_whole : (o p : ℕ) (xs : List Naming) → Stops o p xs → targets_run o p xs ≡ targets o p xs
run_whole o p [] h = refl
run_whole o p (n ∷ ns) h = by (is_at o p n.object n.property) refl (run_whole o p ns (λ j k l m. h (suc j) (suc k) (omega (arith, l)) (omega (arith, m))))
  where
    by : (b : Bool) → is_at o p n.object n.property ≡ b → targets_run o p ns ≡ targets o p ns → cond b (n.target ∷ targets_run o p ns) [] ≡ cond b (n.target ∷ targets o p ns) (targets o p ns)
    by true e rest = ap (λ ts. n.target ∷ ts) rest
    by false e rest = sym (none_named o p ns none)
      where
        none : All (λ (n : Naming). is_at o p n.object n.property ≡ false) ns
        none k d l =
            let same = Rattle.std.proofs.lemmas.List.get_or_default ns k (naming 0 0 0) d l in
            subst (λ (w : Naming). is_at o p w.object w.property ≡ false) same (h 0 (suc k) (omega arith) (omega (arith, l)) e)

named_behind : (o p : ℕ) (xs : List Naming) (i : ℕ) → ((j : ℕ) → j < i → j < length xs → is_at o p (at xs j).object (at xs j).property ≡ false) → targets o p xs ≡ targets o p (drop i xs)
named_behind o p [] zero h = refl
named_behind o p [] (suc i) h = refl
named_behind o p (n ∷ ns) zero h = refl
named_behind o p (n ∷ ns) (suc i) h =
    ap (λ b. cond b (n.target ∷ targets o p ns) (targets o p ns)) (h 0 (omega arith) (omega arith))
    ∙ named_behind o p ns i (λ j l k. h (suc j) (omega (arith, l)) (omega (arith, k)))

drop_at_place : (xs : List Naming) (i j : ℕ) → at (drop i xs) j ≡ at xs (i + j)
drop_at_place xs i j = Rattle.std.proofs.lemmas.List.get_or-drop i xs j (naming 0 0 0)

-- the first of the namings that stand together is the first of its reference
none_before : (xs : List Naming) → AreTogether xs → (i : ℕ) → i < length xs → is_first xs i ≡ true → (j : ℕ) → j < i → is_next (at xs i) (at xs j) ≡ false
none_before xs h zero l e j k = absurd (omega (arith, k))
none_before xs h (suc n) l e j k = by (is_next (at xs (suc n)) (at xs j)) refl
  where
    at_last : is_next (at xs n) (at xs (suc n)) ≡ true → is_next (at xs (suc n)) (at xs j) ≡ false
    at_last t = absurd (true≢false (sym t ∙ not-true _ e))

    by : (b : Bool) → is_next (at xs (suc n)) (at xs j) ≡ b → is_next (at xs (suc n)) (at xs j) ≡ false
    by false t = t
    by true t = elim (cases_lt j n) [
      | inr le ↦ (
          let q : j ≡ n = omega (arith, le, k) in
          let key = next_same (at xs (suc n)) (at xs j) t in
          at_last (same_next (at xs n) (at xs (suc n)) (sym key.0 ∙ ap (λ m. (at xs m).object) q) (sym key.1 ∙ ap (λ m. (at xs m).property) q)))
      | inl lt ↦ (
          let key = next_same (at xs (suc n)) (at xs j) t in
          let mid = next_same (at xs j) (at xs n) (h j n (suc n) lt (omega arith) l (same_next (at xs j) (at xs (suc n)) (sym key.0) (sym key.1))) in
          at_last (same_next (at xs n) (at xs (suc n)) (sym key.0 ∙ sym mid.0) (sym key.1 ∙ sym mid.1)))
    ]

-- what is named together at a first place is all that is named at its reference
pub first_whole : (xs : List Naming) → AreTogether xs → (i : ℕ) → i < length xs → is_first xs i ≡ true → named_from xs i ≡ distinct_targets xs (at xs i).object (at xs i).property
first_whole xs h i l e = ap (united []) (run_whole o p (drop i xs) stops ∙ sym (named_behind o p xs i (λ j k m. none_before xs h i l e j k)))
  where
    o : ℕ
    o = (at xs i).object

    p : ℕ
    p = (at xs i).property

    size : length (drop i xs) + i ≡ length xs
    size = let d = Rattle.std.proofs.lemmas.List.length-drop i xs in omega (arith, d, l)

    later : (j k : ℕ) → j < k → k < length (drop i xs) → is_next (at xs i) (at xs (i + j)) ≡ false → is_next (at xs i) (at xs (i + k)) ≡ false
    later zero k lt m f = absurd (true≢false (sym (same_next (at xs i) (at xs (i + 0)) (ap (λ z. (at xs z).object) q) (ap (λ z. (at xs z).property) q)) ∙ f))
      where
        q : i + 0 ≡ i
        q = omega arith
    later (suc j) k lt m f = by (is_next (at xs i) (at xs (i + k))) refl
      where
        by : (b : Bool) → is_next (at xs i) (at xs (i + k)) ≡ b → is_next (at xs i) (at xs (i + k)) ≡ false
        by false t = t
        by true t = absurd (true≢false (sym (h i (i + suc j) (i + k) (omega arith) (omega (arith, lt)) (omega (arith, m, size)) t) ∙ f))

    stops : Stops o p (drop i xs)
    stops j k lt m f =
        ap (λ (w : Naming). is_next (at xs i) w) (drop_at_place xs i k)
        ∙ later j k lt m (sym (ap (λ (w : Naming). is_next (at xs i) w) (drop_at_place xs i j)) ∙ f)

-- ---- sorted namings

-- the namings of an assembled file stand together
pub together_named : (meta : MetaDesc) (f : Filed) (xs : List Naming) → MayBeAssembled meta f → AreNamed meta f xs → AreTogether xs
together_named meta f xs sound named i j k l m n e =
    same_next (at xs i) (at xs j) (ap (λ (n : Naming). n.object) (here j) ∙ sym oj ∙ sym (ap (λ (n : Naming). n.object) (here i)))
    (ap (λ (n : Naming). n.property) (here j) ∙ property ∙ sym (ap (λ (n : Naming). n.property) (here i)))
  where
    es : List Entry
    es = named.entries

    here : (a : ℕ) → at xs a ≡ naming_of (entry_at es a)
    here a = ap (λ ys. at ys a) named.namings ∙ at_entry es a

    within : k < length es
    within = let c = ap length named.namings ∙ length-map_of es in omega (arith, n, c)

    key : ((at xs k).object ≡ (at xs i).object) × ((at xs k).property ≡ (at xs i).property)
    key = next_same (at xs i) (at xs k) e

    last : (entry_at es i).object ≡ (entry_at es k).object
    last = sym (ap (λ (n : Naming). n.object) (here i)) ∙ sym key.0 ∙ ap (λ (n : Naming). n.object) (here k)

    last_property : (entry_at es i).property.0 ≡ (entry_at es k).property.0
    last_property = sym (ap (λ (n : Naming). n.property) (here i)) ∙ sym key.1 ∙ ap (λ (n : Naming). n.property) (here k)

    low : (entry_at es i).object ≤ (entry_at es j).object
    low = named.order.objects i j no_entry (omega (arith, l)) (omega (arith, m, within))

    high : (entry_at es j).object ≤ (entry_at es k).object
    high = named.order.objects j k no_entry (omega (arith, m)) within

    oj : (entry_at es i).object ≡ (entry_at es j).object
    oj = omega (arith, low, high, last)

    ok : (entry_at es j).object ≡ (entry_at es k).object
    ok = omega (arith, low, high, last)

    rises : (a b : ℕ) → a ≤ b → b < length es → (entry_at es a).object ≡ (entry_at es b).object → (entry_at es a).place ≤ (entry_at es b).place
    rises a b al bl ae = far (b - a) (omega (arith, al))
      where
        far : (c : ℕ) → a + c ≡ b → (entry_at es a).place ≤ (entry_at es b).place
        far c q =
            let inside : a + c < length es = omega (arith, q, bl) in
            subst (λ z. (entry_at es a).place ≤ (entry_at es z).place) q
            (places_rise (entries_from meta f.classes 0 f.references) es named.order a c inside (ae ∙ sym (ap (λ z. (entry_at es z).object) q)))

    good : (a : ℕ) → a < length es → IsGood meta f.classes (entry_at es a)
    good a al = all_good meta f es sound named.order a no_entry al

    good_i : IsGood meta f.classes (entry_at es i)
    good_i = good i (omega (arith, l, m, within))

    good_j : IsGood meta f.classes (entry_at es j)
    good_j = good j (omega (arith, m, within))

    props : List ℕ
    props = props_of meta (class_in f.classes (entry_at es i).object).0

    place_j : (entry_at es j).place ≡ slot_number meta (class_in f.classes (entry_at es i).object).0 (entry_at es j).property.0
    place_j = good_j.place ∙ ap (λ z. slot_number meta (class_in f.classes z).0 (entry_at es j).property.0) (sym oj)

    place_k : (entry_at es k).place ≡ (entry_at es i).place
    place_k = (good k within).place ∙ (λ t. slot_number meta (class_in f.classes (sym last t)).0 (sym last_property t)) ∙ sym good_i.place

    place_same : (entry_at es j).place ≡ (entry_at es i).place
    place_same =
        let a = rises i j (omega (arith, l)) (omega (arith, m, within)) oj in
        let b = rises j k (omega (arith, m)) within ok in
        let c = place_k in
        omega (arith, a, b, c)

    has_j : Rattle.std.specs.Prelude.Contains props (entry_at es j).property.0
    has_j = subst (λ z. Rattle.std.specs.Prelude.Contains (props_of meta (class_in f.classes z).0) (entry_at es j).property.0) (sym oj) good_j.reference.has

    property : (entry_at es j).property.0 ≡ (entry_at es i).property.0
    property = index-same props (entry_at es j).property.0 (entry_at es i).property.0 (index-within props (entry_at es j).property.0 has_j) (index-within props (entry_at es i).property.0 good_i.reference.has)
        (sym place_j ∙ place_same ∙ good_i.place)
