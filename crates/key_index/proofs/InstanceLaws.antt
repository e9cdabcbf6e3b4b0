-- The instances that are gathered are those of the model, and what is passed over in their order are none of a class.
use Rattle.std.proofs.Common.{◌≡◌, ◌<◌, ◌≤◌, ℕ, zero, suc, Bool, true, false, cond, leb, not, List, [], ◌∷◌, length, map, filter, refl, sym, ap, subst, ◌∙◌, arith, Option, None, Some, option_map, get_or, leb-true, le-leb}
use Rattle.std.specs.Prelude.{All, Contains}
use Rattle.std.specs.List.{AllByRecursion, range_with_len}
use Rattle.std.specs.List.Sorted.{IsPermutation, IsNonDecreasingBy}
use Rattle.std.proofs.lemmas.Bool.{true≢false}
use Rattle.std.proofs.lemmas.Option.{same_Some}
use Rattle.std.proofs.lemmas.List.Elements.{All-contains, All-contains_itself, All-rest, All-weaker, filter_passes, recursion_from_All}
use Rattle.std.proofs.lemmas.List.Filters.{length-filter_both}
use Rattle.std.proofs.lemmas.List.Kept.{IsNonDecreasingBy-filter}
use Rattle.std.proofs.lemmas.List.Sorted.{Contains-permutation, IsPermutation-sym}
use Rattle.mof_metamodel.specs.declared.desc.MetaDesc.{MetaDesc}
use Rattle.mof_metamodel.specs.Metamodels.{class_count}
use Rattle.mof_metamodel.proofs.Facts.{contains_first, contains_map, nothing_in}
use Rattle.object_tables.specs.declared.value.ObjId.{ObjId}
use Rattle.object_tables.specs.Objects.{Object}
use Rattle.object_tables.specs.Kept.{Kept}
use Rattle.object_tables.specs.Models.{ModelData, object_at, class_at}
use Rattle.object_tables.proofs.ListLemmas.{Contains-filter, Contains-from_map}
use Rattle.object_tables.proofs.SlotLemmas.{Contains-to_filter}
use Rattle.qvtr_semantics.specs.Objects.{is_kind_of, conforms_if, conforms_at}
use Rattle.key_index.specs.declared.instance.Instance.{Instance}
use Rattle.key_index.specs.Indexes.{IsExtentOf}
use Rattle.key_index.specs.Instances.{instance, instance_if, instances_of, instances, AreInstances, class_number, AreOrdered, is_later, is_instance, objects_of}
use Rattle.key_index.proofs.EntryLaws.{within_objects, in_flat, from_flat, in_range}

-- ---- as they are gathered

one_of : (o : ℕ) (c : Option ℕ) (i : Instance) → Contains (instance_if o c) i → (c ≡ Some i.class.0) × (i.object.0 ≡ o)
one_of o None i h = absurd (nothing_in i h)
one_of o (Some c) i (zero, within, is) = (ap (λ (j : Instance). Some j.class.0) is, sym (ap (λ (j : Instance). j.object.0) is))
one_of o (Some c) i (suc k, within, is) = absurd (omega (arith, within))

one_there : (o c : ℕ) (x : Option ℕ) → x ≡ Some c → Contains (instance_if o x) (instance o c)
one_there o c x is = subst (λ y. Contains (instance_if o y) (instance o c)) (sym is) (contains_first (instance o c) [])

pub gathered : (m : ModelData) → AreInstances m (instances m)
gathered m = record { only = only; all = all }
  where
    only : (i : Instance) → Contains (instances m) i → class_at m i.object.0 ≡ Some i.class.0
    only i c =
        let by_object = from_flat (instances_of m) (range_with_len 0 (length m.objects)) i c in
        let one = one_of by_object.0 (class_at m by_object.0) i by_object.2 in
        ap (class_at m) one.1 ∙ one.0

    all : (o c : ℕ) → class_at m o ≡ Some c → Contains (instances m) (instance o c)
    all o c is =
        in_flat (instances_of m) (range_with_len 0 (length m.objects)) o (instance o c) (in_range (length m.objects) o (within_objects m o c is))
        (one_there o c (class_at m o) is)

pub moved : (m : ModelData) (xs ys : List Instance) → IsPermutation xs ys → AreInstances m xs → AreInstances m ys
moved m xs ys perm are = record {
  only = λ i c. are.only i (Contains-permutation ys xs i (IsPermutation-sym xs ys perm) c);
  all = λ o c is. Contains-permutation xs ys (instance o c) perm (are.all o c is);
}

-- ---- in the order of their classes

class_known : (m : ModelData) → Kept m → (o c : ℕ) → class_at m o ≡ Some c → c < class_count m.meta
class_known m kept o c is = by (object_at m o) refl is
  where
    by : (x : Option Object) → object_at m o ≡ x → class_at m o ≡ Some c → c < class_count m.meta
    by None none e = absurd (let no : None ≡ Some c = sym (ap (λ (x : Option Object). option_map (λ (ob : Object). ob.class) x) none) ∙ e in cc)
    by (Some ob) here e =
        let same : Some ob.class ≡ Some c = sym (ap (λ (x : Option Object). option_map (λ (ob : Object). ob.class) x) here) ∙ e in
        subst (λ k. k < class_count m.meta) (same_Some ob.class c same) (kept.objects o ob here).class

pub ordered : (m : ModelData) (is : List Instance) → Kept m → AreInstances m is → IsNonDecreasingBy class_number is → AreOrdered m.meta is
ordered m is kept are up = record {
  ascending = up;
  known =
      All-weaker (Contains is) (λ i. i.class.0 < class_count m.meta) (λ i c. class_known m kept i.object.0 i.class.0 (are.only i c)) is (All-contains_itself is);
}

module _ (meta : MetaDesc) (class : ℕ) where
  module _ (c : ℕ) (none : is_kind_of meta c class ≡ false) where
    same_class : (j : Instance) → c ≤ j.class.0 → leb j.class.0 c ≡ true → is_instance meta class j ≡ false
    same_class j least upto =
        let most : j.class.0 ≤ c = leb-true j.class.0 c upto in
        let same : j.class.0 ≡ c = omega (arith, least, most) in
        ap (λ k. is_kind_of meta k class) same ∙ none

    passed_one : (j : Instance) (is later : List Instance) (b : Bool) → leb j.class.0 c ≡ b → c ≤ j.class.0
        → filter (is_instance meta class) later ≡ filter (is_instance meta class) is
        → filter (is_instance meta class) (cond (not b) (j ∷ later) later) ≡ cond (is_instance meta class j) (j ∷ filter (is_instance meta class) is) (filter (is_instance meta class) is)
    passed_one j is later true e least same =
        same ∙ sym (ap (λ x. cond x (j ∷ filter (is_instance meta class) is) (filter (is_instance meta class) is)) (same_class j least e))
    passed_one j is later false e least same = ap (λ ys. cond (is_instance meta class j) (j ∷ ys) ys) same

    passed : (is : List Instance) → AllByRecursion (λ j. c ≤ j.class.0) is → filter (is_instance meta class) (filter (is_later c) is) ≡ filter (is_instance meta class) is
    passed [] least = refl
    passed (j ∷ is) least = passed_one j is (filter (is_later c) is) (leb j.class.0 c) refl least.0 (passed is least.1)

  -- where the first has nothing to do with the class, those of later classes have the same objects of it
  pub passed_over : (first : Instance) (is : List Instance) → IsNonDecreasingBy class_number is → (rest : List Instance) → is ≡ first ∷ rest → is_instance meta class first ≡ false
      → objects_of meta class (filter (is_later first.class.0) is) ≡ objects_of meta class is
  passed_over first is up rest at none =
      ap (map (λ (i : Instance). i.object)) (passed first.class.0 none is (recursion_from_All (λ j. first.class.0 ≤ j.class.0) is least))
    where
      least : All (λ j. first.class.0 ≤ j.class.0) is
      least k d within = subst (λ xs. (get_or xs 0 d).class.0 ≤ (get_or is k d).class.0) at (up 0 k d (omega arith) within)

pub later_ordered : (meta : MetaDesc) (c : ℕ) (is : List Instance) → AreOrdered meta is → AreOrdered meta (filter (is_later c) is)
later_ordered meta c is are = record {
  ascending = IsNonDecreasingBy-filter class_number (is_later c) is are.ascending;
  known =
      All-weaker (Contains (filter (is_later c) is)) (λ i. i.class.0 < class_count meta)
      (λ i within. All-contains (λ (j : Instance). j.class.0 < class_count meta) is i are.known (Contains-filter (is_later c) is i within))
      (filter (is_later c) is) (All-contains_itself (filter (is_later c) is));
}

-- ---- the extent of a class

module _ (m : ModelData) (class : ℕ) (is : List Instance) (are : AreInstances m is) where
  abbrev kept_of : List Instance
  kept_of = filter (is_instance m.meta class) is

  extent_from : (o : ObjId) → Contains (objects_of m.meta class is) o → conforms_at m class o.0 ≡ true
  extent_from o h =
      let found = Contains-from_map (λ (i : Instance). i.object) kept_of o h in
      let i : Instance = found.0 in
      let passes = All-contains (λ (j : Instance). is_instance m.meta class j ≡ true) kept_of i (filter_passes (is_instance m.meta class) is) found.1 in
      let at = are.only i (Contains-filter (is_instance m.meta class) is i found.1) in
      ap (conforms_at m class) (sym (ap (λ (x : ObjId). x.0) found.2)) ∙ ap (conforms_if m.meta class) at ∙ passes

  extent_to : (o : ObjId) → conforms_at m class o.0 ≡ true → Contains (objects_of m.meta class is) o
  extent_to o h = by (class_at m o.0) refl
    where
      by : (x : Option ℕ) → class_at m o.0 ≡ x → Contains (objects_of m.meta class is) o
      by None none = absurd (true≢false (sym h ∙ ap (conforms_if m.meta class) none))
      by (Some c) here =
          contains_map (λ (i : Instance). i.object) kept_of (instance o.0 c)
          (Contains-to_filter (is_instance m.meta class) is (instance o.0 c) (sym (ap (conforms_if m.meta class) here) ∙ h) (are.all o.0 c here))

  pub extent_is : IsExtentOf m class (objects_of m.meta class is)
  extent_is o = (extent_from o, extent_to o)

-- ---- the first of a class

module _ (meta : MetaDesc) (class : ℕ) (first : Instance) (left rest : List Instance) (at : left ≡ first ∷ rest) where
  pub rest_ordered : AreOrdered meta left → AreOrdered meta rest
  rest_ordered are =
      let whole : AreOrdered meta (first ∷ rest) = subst (AreOrdered meta) at are in
      record {
        ascending = λ i j d upto within. whole.ascending (suc i) (suc j) d (omega (arith, upto)) (omega (arith, within));
        known = All-rest (λ (i : Instance). i.class.0 < class_count meta) first rest (first ∷ rest) refl whole.known;
      }

  pub first_is : is_instance meta class first ≡ true → objects_of meta class left ≡ first.object ∷ objects_of meta class rest
  first_is is =
      ap (objects_of meta class) at
      ∙ ap (λ b. map (λ (i : Instance). i.object) (cond b (first ∷ filter (is_instance meta class) rest) (filter (is_instance meta class) rest))) is

  -- fewer are of later classes
  pub fewer_later : length (filter (is_later first.class.0) left) < length left
  fewer_later =
      let same : filter (is_later first.class.0) left ≡ filter (is_later first.class.0) rest =
      ap (filter (is_later first.class.0)) at
      ∙ ap (λ b. cond (not b) (first ∷ filter (is_later first.class.0) rest) (filter (is_later first.class.0) rest)) (le-leb first.class.0 first.class.0 (omega arith)) in
      let both = length-filter_both (is_later first.class.0) (λ i. not (is_later first.class.0 i)) (λ i. refl) rest in
      let shorter = ap length same in
      let long = ap length at in
      omega (arith, both, shorter, long)
