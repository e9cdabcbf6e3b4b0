-- What the tests of the edits' conditions find, exactly.
use Rattle.std.proofs.Common.{◌≡◌, ◌≢◌, ℕ, ◌+◌, ◌-◌, ◌<◌, ◌≤◌, suc, List, [], ◌∷◌, length, get_or, map, take, drop, refl, sym, ◌∙◌, subst, ap, arith, Option, Some, None, Bool, true, false, inl, inr}
use Rattle.std.specs.Prelude.{◌↔◌, IsTrue, Contains, is_some, position, nat_eq, not, All, AllPairs, IsPermutation, sum_by}
use Rattle.std.specs.List.Sorted.{IsNonDecreasing}
use Rattle.std.proofs.lemmas.Bool.{cases_lt, not-true}
use Rattle.std.proofs.lemmas.List.{get_or_default, get_or-drop, length-drop, take_all}
use Rattle.std.proofs.lemmas.List.Sums.{sum_by-cons}
use Rattle.std.proofs.lemmas.List.Sorted.{sum_by-IsPermutation, IsPermutation-trans, IsPermutation-sym}
use Rattle.std.specs.Cmp.Lexicographic.{pointwise, bytes_decides}
use Rattle.mof_metamodel.specs.declared.desc.MetaDesc.{MetaDesc}
use Rattle.mof_metamodel.specs.declared.desc.PropType.{PropType}
use Rattle.mof_metamodel.specs.Metamodels.{props_of, prop_count, prop_at, type_of, opposite_of, Conforms}
use Rattle.mof_metamodel.proofs.PropLemmas.{prop_known}
use Rattle.object_tables.specs.declared.value.Value.{Value}
use Rattle.object_tables.specs.declared.value.ObjId.{ObjId}
use Rattle.object_tables.specs.Ids.{object_ids}
use Rattle.object_tables.specs.Models.{ModelData, class_at, is_class_type, is_value_of, index_of, IsReferenceOf, IsAttributeOf, IsTop, IsFree, IsSlotOf}
use Rattle.object_tables.specs.Places.{IsOfClass, IsOpposedByWhole}
use Rattle.object_tables.specs.Validity.{IsPropertyOf}
use Rattle.object_tables.proofs.ModelLemmas.{same_class, index-within, index-found}
use Rattle.object_tables.proofs.PlaceLemmas.{index_looked_up}

-- a test that is another one
pub told : {P : Type 0} (r s : Bool) → r ≡ s → IsTrue s ↔ P → IsTrue r ↔ P
told r s e (there, back) = ((λ h. there (sym e ∙ h)), (λ p. e ∙ back p))

-- ---- properties

place_has : (qs : List ℕ) (p : ℕ) (o : Option ℕ) → o ≡ position (nat_eq p) qs → IsTrue (is_some o) ↔ Contains qs p
place_has qs p None e = (
  (λ h. absurd cc),
  (λ h. absurd (let w = index-within qs p h in let n : index_of qs p ≡ length qs = (index_looked_up qs p None e).1 refl in omega arith)),
)
place_has qs p (Some i) e = (
  (λ h. let (is, l) = (index_looked_up qs p (Some i) e).0 i refl in let within : index_of qs p < length qs = omega arith in (index_of qs p, within, index-found qs p p within)),
  (λ h. refl),
)

pub property-exactly : (m : ModelData) (o p c : ℕ) (place : Option ℕ) → class_at m o ≡ Some c → place ≡ position (nat_eq p) (props_of m.meta c) → IsTrue (is_some place) ↔ IsPropertyOf m o p
property-exactly m o p c place hc e =
    let (there, back) = place_has (props_of m.meta c) p place e in (
      (λ h. record { class = c; class_is = hc; has = there h }),
      (λ h. back (subst (λ k. Contains (props_of m.meta k) p) (same_class m o h.class c h.class_is hc) h.has)),
    )

pub reference-exactly : (m : ModelData) (o p : ℕ) (ty : PropType) (r : Bool) → IsPropertyOf m o p → type_of m.meta p ≡ Some ty → r ≡ is_class_type (Some ty) → IsTrue r ↔ IsReferenceOf m o p
reference-exactly m o p ty r has t e = (
  (λ h. record { class = has.class; class_is = has.class_is; has = has.has; reference = ap is_class_type t ∙ sym e ∙ h }),
  (λ h. e ∙ ap is_class_type (sym t) ∙ h.reference),
)

pub attribute-exactly : (m : ModelData) (o p : ℕ) (ty : PropType) (r : Bool) → IsPropertyOf m o p → type_of m.meta p ≡ Some ty → r ≡ is_class_type (Some ty) → IsTrue (not r) ↔ IsAttributeOf m o p
attribute-exactly m o p ty r has t e = (
  (λ h. record { class = has.class; class_is = has.class_is; has = has.has; attribute = ap is_class_type t ∙ sym e ∙ not-true r h }),
  (λ h. let w : r ≡ false = e ∙ ap is_class_type (sym t) ∙ h.attribute in ap not w),
)

-- ---- partners

pub class-exactly : (m : ModelData) (o c d : ℕ) (meta : MetaDesc) (r : Bool) → class_at m o ≡ Some c → meta ≡ m.meta → IsTrue r ↔ Conforms meta c d → IsTrue r ↔ IsOfClass m o d
class-exactly m o c d meta r hc e (there, back) = (
  (λ h. record { class = c; class_is = hc; conforms = subst (λ (x : MetaDesc). Conforms x c d) e (there h) }),
  (λ k. back (subst (λ (x : MetaDesc). Conforms x c d) (sym e) (subst (λ (y : ℕ). Conforms m.meta y d) (same_class m o k.class c k.class_is hc) k.conforms))),
)

-- ---- second containers

pub opposed-exactly : (meta : MetaDesc) (p q : ℕ) (r : Bool) → opposite_of meta p ≡ Some q → r ≡ (prop_at meta q).composite → IsTrue r ↔ IsOpposedByWhole meta p
opposed-exactly meta p q r e is = (
  (λ h. record { opposite = q; opposite_is = e; composite = sym is ∙ h }),
  (λ h. let w : Some h.opposite ≡ Some q = sym h.opposite_is ∙ e in let same : h.opposite ≡ q = cc in is ∙ ap (λ x. (prop_at meta x).composite) (sym same) ∙ h.composite),
)

pub unopposed : (meta : MetaDesc) (p : ℕ) → opposite_of meta p ≡ None → IsOpposedByWhole meta p → ⊥
unopposed meta p e h = let w : None ≡ Some h.opposite = sym e ∙ h.opposite_is in cc

pub free-exactly : (m : ModelData) (p a b : ℕ) (part whole first second : Bool) → part ≡ (prop_at m.meta p).composite → IsTrue whole ↔ IsOpposedByWhole m.meta p
    → IsTrue first ↔ (part ≡ true → IsTop m b) → first ≡ true → IsTrue second ↔ (whole ≡ true → IsTop m a) → IsTrue second ↔ IsFree m p a b
free-exactly m p a b part whole first second is (opposed, back) (top, _) may (over, under) = (
  (λ h. record {
    part = λ composite. top may (is ∙ composite);
    whole = λ q e composite. over h (back (record { opposite = q; opposite_is = e; composite = composite }));
  }),
  (λ free. under (λ w. let o = opposed w in free.whole o.opposite o.opposite_is o.composite)),
)

pub not_free : (m : ModelData) (p a b : ℕ) (part first : Bool) → part ≡ (prop_at m.meta p).composite → IsTrue first ↔ (part ≡ true → IsTop m b) → first ≡ false → IsFree m p a b → ⊥
not_free m p a b part first is (top, back) fails free =
    let w : first ≡ true = back (λ h. free.part (sym is ∙ h)) in
    let z : false ≡ true = sym fails ∙ w in cc

-- ---- values

-- ---- orders

-- so much that no element counts
none_counts : (n : ℕ) (vs : List ℕ) → ((j : ℕ) → j < length vs → n ≤ get_or vs j 0) → sum_by (λ z. n - z) vs ≡ 0
none_counts n [] h = refl
none_counts n (v ∷ vs) h =
    let first = h 0 (omega arith) in
    let rest = none_counts n vs (λ j l. h (suc j) (omega arith)) in
    let e : sum_by (λ z. n - z) (v ∷ vs) ≡ (n - v) + sum_by (λ z. n - z) vs = sum_by-cons (λ z. n - z) v vs in
    omega arith

-- in an ascending list nothing is below the first element
first_least : (v : ℕ) (vs : List ℕ) → IsNonDecreasing (v ∷ vs) → (j : ℕ) → j < length (v ∷ vs) → v ≤ get_or (v ∷ vs) j 0
first_least v vs up j l = up 0 j 0 (omega arith) l

rest_ascends : (v : ℕ) (vs : List ℕ) → IsNonDecreasing (v ∷ vs) → IsNonDecreasing vs
rest_ascends v vs up i j d le l = up (suc i) (suc j) d (omega arith) (omega arith)

-- two lists count alike
abbrev CountAlike : List ℕ → List ℕ → Type 0
CountAlike us vs = (f : ℕ → ℕ) → sum_by f us ≡ sum_by f vs

not_below : (u v : ℕ) (us vs : List ℕ) → CountAlike (u ∷ us) (v ∷ vs) → IsNonDecreasing (v ∷ vs) → u < v → ⊥
not_below u v us vs same up l =
    let f : ℕ → ℕ = λ z. v - z in
    let none : sum_by (λ z. v - z) (v ∷ vs) ≡ 0 = none_counts v (v ∷ vs) (first_least v vs up) in
    let here : sum_by (λ z. v - z) (u ∷ us) ≡ (v - u) + sum_by (λ z. v - z) us = sum_by-cons (λ z. v - z) u us in
    let e : sum_by (λ z. v - z) (u ∷ us) ≡ sum_by (λ z. v - z) (v ∷ vs) = same (λ z. v - z) in
    omega arith

sorted-same : (us vs : List ℕ) → IsNonDecreasing us → IsNonDecreasing vs → CountAlike us vs → us ≡ vs
sorted-same [] [] up up' same = refl
sorted-same [] (v ∷ vs) up up' same = absurd (let e : 0 ≡ sum_by (λ z. 1) (v ∷ vs) = same (λ z. 1) in let h = sum_by-cons (λ z. 1) v vs in omega arith)
sorted-same (u ∷ us) [] up up' same = absurd (let e : sum_by (λ z. 1) (u ∷ us) ≡ 0 = same (λ z. 1) in let h = sum_by-cons (λ z. 1) u us in omega arith)
sorted-same (u ∷ us) (v ∷ vs) up up' same = elim (cases_lt u v) [
  | inl l ↦ absurd (not_below u v us vs same up' l)
  | inr ge ↦ elim (cases_lt v u) [
    | inl l ↦ absurd (not_below v u vs us (λ f. sym (same f)) up l)
    | inr le ↦ (
        let e : u ≡ v = omega arith in
        let rest : us ≡ vs = sorted-same us vs (rest_ascends u us up) (rest_ascends v vs up') (λ f.
        let h = same f in
        let a : sum_by f (u ∷ us) ≡ f u + sum_by f us = sum_by-cons f u us in
        let b : sum_by f (v ∷ vs) ≡ f v + sum_by f vs = sum_by-cons f v vs in
        let w : f u ≡ f v = ap f e in
        omega arith) in
        cc)
  ]
]

-- sorted lists are equal where one is the other in another order
pub sorted_rearranged : (xs ys us vs : List ℕ) → IsPermutation xs us → IsPermutation ys vs → IsNonDecreasing us → IsNonDecreasing vs → IsPermutation xs ys → us ≡ vs
sorted_rearranged xs ys us vs p q up up' r = sorted-same us vs up up' (λ f. sum_by-IsPermutation f xs us p ∙ sym (sum_by-IsPermutation f xs ys r) ∙ sym (sum_by-IsPermutation f ys vs q))

-- ---- what is known of a property of an object

pub known_at : (m : ModelData) (o p : ℕ) (meta : MetaDesc) → meta ≡ m.meta → IsPropertyOf m o p → p < prop_count meta
known_at m o p meta e h = subst (λ (d : MetaDesc). p < prop_count d) (sym e) (prop_known m.meta h.class p h.has)

-- ---- orders of partners

pub rearranged-exactly : (r : Bool) (xs ys us vs : List ℕ) → IsPermutation xs us → IsPermutation ys vs → IsNonDecreasing us → IsNonDecreasing vs → r ≡ pointwise nat_eq us vs → IsTrue r ↔ IsPermutation xs ys
rearranged-exactly r xs ys us vs p q up up' e = (
  (λ h.
      let same : us ≡ vs = (bytes_decides us vs).0 (sym e ∙ h) in
      let Reaches : List ℕ → Type 0 = λ ws. IsPermutation xs ws in
      IsPermutation-trans xs vs ys (subst Reaches same p) (IsPermutation-sym ys vs q)),
  (λ h. e ∙ (bytes_decides us vs).1 (sorted_rearranged xs ys us vs p q up up' h)),
)

abbrev numbers : List ObjId → List ℕ
numbers objects = map (λ o. o.0) objects

numbers-ids : (ns : List ℕ) → numbers (object_ids ns) ≡ ns
numbers-ids [] = refl
numbers-ids (n ∷ ns) = ap (λ xs. n ∷ xs) (numbers-ids ns)

pub order-exactly : (r : Bool) (order shown : List ObjId) (ns : List ℕ) → shown ≡ object_ids ns → IsTrue r ↔ IsPermutation (numbers order) (numbers shown) → IsTrue r ↔ IsPermutation (numbers order) ns
order-exactly r order shown ns e h =
    let Holds : List ℕ → Type 0 = λ xs. IsTrue r ↔ IsPermutation (numbers order) xs in
    subst Holds (ap numbers e ∙ numbers-ids ns) h

-- ---- values that differ

-- each element before i differs from all that stand behind it
abbrev pub AreApart : List Value → ℕ → Type 0
AreApart xs i = (j k : ℕ) (d : Value) → j < i → j < k → k < length xs → get_or xs j d ≢ get_or xs k d

abbrev rest : List Value → ℕ → List Value
rest xs i = drop (i + 1) xs

rest-at : (xs : List Value) (i k : ℕ) (d : Value) → get_or (rest xs i) k d ≡ get_or xs (i + 1 + k) d
rest-at xs i k d = get_or-drop (i + 1) xs k d

whole_rest : (xs : List Value) (i : ℕ) → take (length xs - (i + 1)) (rest xs i) ≡ rest xs i
whole_rest xs i = take_all (length xs - (i + 1)) (rest xs i) (omega (arith, length-drop (i + 1) xs))

-- one more that differs from the rest
pub apart_more : (xs : List Value) (i : ℕ) (v : Value) → i < length xs → v ≡ get_or xs i v → All (λ x. x ≢ v) (take (length xs - (i + 1)) (rest xs i)) → AreApart xs i → AreApart xs (i + 1)
apart_more xs i v inside here differs before j k d below after within e = elim (cases_lt j i) [
  | inl l ↦ before j k d l after within e
  | inr le ↦ (
      let j_is : j ≡ i = omega arith in
      let k_is : i + 1 + (k - (i + 1)) ≡ k = omega arith in
      let Differ : List Value → Type 0 = λ ys. All (λ x. x ≢ v) ys in
      let all : All (λ x. x ≢ v) (rest xs i) = subst Differ (whole_rest xs i) differs in
      let there : get_or (rest xs i) (k - (i + 1)) d ≡ get_or xs k d = rest-at xs i (k - (i + 1)) d ∙ ap (λ n. get_or xs n d) k_is in
      let first : v ≡ get_or xs j d = here ∙ get_or_default xs i v d inside ∙ ap (λ n. get_or xs n d) (sym j_is) in
      all (k - (i + 1)) d (omega (arith, length-drop (i + 1) xs)) (there ∙ sym e ∙ sym first))
]

pub slot-exactly : (m : ModelData) (meta : MetaDesc) (p : ℕ) (vs : List Value) (ty : PropType) (r : Bool) → meta ≡ m.meta → type_of m.meta p ≡ Some ty
    → All (λ v. IsTrue (is_value_of meta (Some ty) v)) vs → IsTrue r ↔ AllPairs (λ x y. x ≢ y) vs → IsTrue r ↔ IsSlotOf m.meta p vs
slot-exactly m meta p vs ty r e t typed (there, back) =
    let Typed : MetaDesc → Type 0 = λ d. All (λ v. IsTrue (is_value_of d (Some ty) v)) vs in
    let Fits : Option PropType → Type 0 = λ o. All (λ v. IsTrue (is_value_of m.meta o v)) vs in (
      (λ h. record { typed = subst Fits (sym t) (subst Typed e typed); distinct = there h }),
      (λ s. back s.distinct),
    )

pub slot_untyped : (m : ModelData) (meta : MetaDesc) (p : ℕ) (vs : List Value) (ty : PropType) → meta ≡ m.meta → type_of m.meta p ≡ Some ty → IsSlotOf m.meta p vs → All (λ v. IsTrue (is_value_of meta (Some ty) v)) vs
slot_untyped m meta p vs ty e t s =
    let Typed : MetaDesc → Type 0 = λ d. All (λ v. IsTrue (is_value_of d (Some ty) v)) vs in
    let Fits : Option PropType → Type 0 = λ o. All (λ v. IsTrue (is_value_of m.meta o v)) vs in
    subst Typed (sym e) (subst Fits t s.typed)
