-- A source is valid: each object has as many values and partners as it may, and containers are of other classes than their parts.
use Rattle.std.proofs.Common.{◌≡◌, ◌≢◌, ◌≤◌, ◌<◌, ◌+◌, ◌*◌, ℕ, zero, suc, true, List, [], ◌∷◌, length, map, Option, None, Some, refl, ap, sym, ◌∙◌, subst, arith, true≢false}
use Rattle.std.specs.Prelude.{option_map, Contains, if◌then◌else◌}
use Rattle.std.specs.List.{AllByRecursion, flat_map, range_with_len}
use Rattle.std.proofs.lemmas.Option.{none-some, same_Some}
use Rattle.mof_metamodel.specs.Metamodels.{props_of, prop_at, type_of, IsPath}
use Rattle.mof_metamodel.proofs.Facts.{nothing_in, only_one}
use Rattle.object_tables.specs.Objects.{Object}
use Rattle.object_tables.specs.Models.{ModelData, object_at, class_at, is_class_type, slot_in, live_count, ConformsTo}
use Rattle.object_tables.specs.Containment.{IsContainer, IsContainerPath, IsAcyclic}
use Rattle.object_tables.specs.Kept.{Kept}
use Rattle.object_tables.specs.Validity.{KeepsBounds, Valid}
use Rattle.object_tables.proofs.KeptLemmas.{sound_of, linked_reference, linked_partner}
use Rattle.example_models.specs.ClsTable.{cls_desc}
use Rattle.example_models.specs.Source.{package_count, classes_in, attribute_count, package_object, class_object, attribute_object, class_objects, classes_objects, package_objects, packages_objects, source_data, source_count}
use Rattle.example_models.specs.Growing.{model_of}
use Rattle.example_models.proofs.Lists.{all_joined, all_at}
use Rattle.example_models.proofs.SizeLaws.{length_joined}
use Rattle.example_models.proofs.LabelLaws.{IsBelow, packages_these, these_live}

-- ---- bounds

-- how many values or partners the object has
abbrev count_in : Option Object → ℕ → ℕ
count_in x p = if is_class_type (type_of cls_desc p) then length (slot_in cls_desc p x).partners else length (slot_in cls_desc p x).values

-- at a property as many as it may have
record HasEnough (x : Option Object) (p : ℕ) : Type 0 where
  enough : (prop_at cls_desc p).lower ≤ count_in x p
  few : (b : ℕ) → (prop_at cls_desc p).upper ≡ Some b → count_in x p ≤ b

-- at each property of its class
abbrev HasEnoughOf : Option Object → Type 0
HasEnoughOf None = Unit {0}
HasEnoughOf (Some ob) = AllByRecursion (HasEnough (Some ob)) (props_of cls_desc ob.class)

at_most_one : (c b : ℕ) → c ≤ 1 → Some 1 ≡ Some b → c ≤ b
at_most_one c b few e = let same = same_Some 1 b e in omega (arith, few, same)

-- of a property with at most one
single : (x : Option Object) (p : ℕ) → (prop_at cls_desc p).upper ≡ Some 1 → (prop_at cls_desc p).lower ≤ count_in x p → count_in x p ≤ 1 → HasEnough x p
single x p upper enough few = record { enough = enough; few = λ b e. at_most_one (count_in x p) b few (sym upper ∙ e) }

-- of one with any number
any : (x : Option Object) (p : ℕ) → (prop_at cls_desc p).upper ≡ None → (prop_at cls_desc p).lower ≤ 0 → HasEnough x p
any x p upper none = record { enough = omega (arith, none); few = λ b e. absurd (none-some b (sym upper ∙ e)) }

package_enough : (seed k n : ℕ) → HasEnoughOf (Some (package_object seed k n))
package_enough seed k n =
    let x : Option Object = Some (package_object seed k n) in
    (single x 0 refl (omega arith) (omega arith), (any x 1 refl (omega arith), tt))

class_enough : (seed i n : ℕ) → HasEnoughOf (Some (class_object seed i n))
class_enough seed i n =
    let x : Option Object = Some (class_object seed i n) in (
      single x 0 refl (omega arith) (omega arith),
      (
        single x 2 refl (omega arith) (omega arith),
        (
          single x 3 refl (omega arith) (omega arith),
          (single x 4 refl (omega arith) (omega arith), (any x 5 refl (omega arith), (any x 6 refl (omega arith), (any x 7 refl (omega arith), tt)))),
        ),
      ),
    )

attribute_enough : (seed i j : ℕ) → HasEnoughOf (Some (attribute_object seed i j))
attribute_enough seed i j =
    let x : Option Object = Some (attribute_object seed i j) in (
      single x 0 refl (omega arith) (omega arith),
      (
        single x 8 refl (omega arith) (omega arith),
        (
          single x 9 refl (omega arith) (omega arith),
          (single x 10 refl (omega arith) (omega arith), tt),
        ),
      ),
    )

attributes_enough : (seed i a n : ℕ) → AllByRecursion HasEnoughOf (map (λ j. Some (attribute_object seed i j)) (range_with_len a n))
attributes_enough seed i a zero = tt
attributes_enough seed i a (suc n) = (attribute_enough seed i a, attributes_enough seed i (a + 1) n)

classes_enough : (seed i n : ℕ) → AllByRecursion HasEnoughOf (classes_objects seed i n)
classes_enough seed i zero = tt
classes_enough seed i (suc n) =
    all_joined HasEnoughOf (class_objects seed i (attribute_count seed i)) (classes_objects seed (i + 1) n)
    (class_enough seed i (attribute_count seed i), attributes_enough seed i 0 (attribute_count seed i)) (classes_enough seed (i + 1) n)

packages_enough : (n seed k count : ℕ) → AllByRecursion HasEnoughOf (flat_map (λ k. package_objects seed k (classes_in n k)) (range_with_len k count))
packages_enough n seed k zero = tt
packages_enough n seed k (suc count) =
    all_joined HasEnoughOf (package_objects seed k (classes_in n k)) (flat_map (λ k. package_objects seed k (classes_in n k)) (range_with_len (k + 1) count))
    (package_enough seed k (classes_in n k), classes_enough seed (100 * k) (classes_in n k)) (packages_enough n seed (k + 1) count)

enough_at : (xs : List (Option Object)) (o : ℕ) → AllByRecursion HasEnoughOf xs → HasEnoughOf (object_at (model_of xs) o)
enough_at [] o h = tt
enough_at (x ∷ xs) zero h = h.0
enough_at (x ∷ xs) (suc o) h = enough_at xs o h.1

enough_in : (x : Option Object) (p class : ℕ) → HasEnoughOf x → option_map (λ (ob : Object). ob.class) x ≡ Some class → Contains (props_of cls_desc class) p → HasEnough x p
enough_in None p class h is has = absurd (none-some class is)
enough_in (Some ob) p class h is has =
    all_at (HasEnough (Some ob)) (props_of cls_desc ob.class) p h (subst (λ c. Contains (props_of cls_desc c) p) (sym (same_Some ob.class class is)) has)

bounds_kept : (xs : List (Option Object)) → AllByRecursion HasEnoughOf xs → (o p : ℕ) → KeepsBounds (model_of xs) o p
bounds_kept xs h o p = record {
  lower = λ wrong. (
      let enough = (enough_in (object_at (model_of xs) o) p wrong.property.class (enough_at xs o h) wrong.property.class_is wrong.property.has).enough in
      omega (arith, enough, wrong.below));
  upper = λ wrong. (
      let few = (enough_in (object_at (model_of xs) o) p wrong.property.class (enough_at xs o h) wrong.property.class_is wrong.property.has).few wrong.bound wrong.bound_is in
      omega (arith, few, wrong.above));
}

-- ---- containers

-- a class that has the property is before the class of the property's parts
has_classes : (c : ℕ) → c < 4 → Contains (props_of cls_desc c) 1 → c < 2
has_classes zero l h = omega arith
has_classes (suc zero) l h = omega arith
has_classes (suc (suc zero)) l h =
    absurd (all_at (λ x. x ≢ 1) (props_of cls_desc 2) 1
    ((λ e. omega (arith, e)), ((λ e. omega (arith, e)), ((λ e. omega (arith, e)), ((λ e. omega (arith, e)), ((λ e. omega (arith, e)), ((λ e. omega (arith, e)), ((λ e. omega (arith, e)), tt))))))) h refl)
has_classes (suc (suc (suc zero))) l h =
    absurd (all_at (λ x. x ≢ 1) (props_of cls_desc 3) 1
    ((λ e. omega (arith, e)), ((λ e. omega (arith, e)), ((λ e. omega (arith, e)), ((λ e. omega (arith, e)), tt)))) h refl)
has_classes (suc (suc (suc (suc c)))) l h = absurd (omega (arith, l))

has_attrs : (c : ℕ) → c < 4 → Contains (props_of cls_desc c) 7 → c < 3
has_attrs zero l h = omega arith
has_attrs (suc zero) l h = omega arith
has_attrs (suc (suc zero)) l h = omega arith
has_attrs (suc (suc (suc zero))) l h =
    absurd (all_at (λ x. x ≢ 7) (props_of cls_desc 3) 7
    ((λ e. omega (arith, e)), ((λ e. omega (arith, e)), ((λ e. omega (arith, e)), ((λ e. omega (arith, e)), tt)))) h refl)
has_attrs (suc (suc (suc (suc c)))) l h = absurd (omega (arith, l))

-- only Named is above a class
above_named : (path : List ℕ) (t : ℕ) → IsPath cls_desc 0 path t → t ≡ 0
above_named [] t e = sym e
above_named (e ∷ path) t h = absurd (nothing_in e h.0)

one_above : (d t : ℕ) (path : List ℕ) → 0 < t → d < 4 → IsPath cls_desc d path t → d ≡ t
one_above d t [] some l e = e
one_above zero t (e ∷ path) some l h = absurd (nothing_in e h.0)
one_above (suc zero) t (e ∷ path) some l h =
    absurd (let named = above_named path t (subst (λ c. IsPath cls_desc c path t) (sym (only_one 0 e h.0)) h.1) in omega (arith, named, some))
one_above (suc (suc zero)) t (e ∷ path) some l h =
    absurd (let named = above_named path t (subst (λ c. IsPath cls_desc c path t) (sym (only_one 0 e h.0)) h.1) in omega (arith, named, some))
one_above (suc (suc (suc zero))) t (e ∷ path) some l h =
    absurd (let named = above_named path t (subst (λ c. IsPath cls_desc c path t) (sym (only_one 0 e h.0)) h.1) in omega (arith, named, some))
one_above (suc (suc (suc (suc d)))) t (e ∷ path) some l h = absurd (omega (arith, l))

-- the classes of a container and of its part
record AreClasses (m : ModelData) (o a : ℕ) : Type 0 where
  whole : ℕ
  part : ℕ
  whole_is : class_at m a ≡ Some whole
  part_is : class_at m o ≡ Some part
  order : whole < part

module _ (xs : List (Option Object)) (kept : Kept (model_of xs)) where
  class_low : (o c : ℕ) → class_at (model_of xs) o ≡ Some c → c < 4
  class_low o c is = by (object_at (model_of xs) o) refl is
    where
      by : (x : Option Object) → object_at (model_of xs) o ≡ x → option_map (λ (ob : Object). ob.class) x ≡ Some c → c < 4
      by None e g = absurd (none-some c g)
      by (Some ob) e g = subst (λ k. k < 4) (same_Some ob.class c g) (kept.objects o ob e).class

  composite_cases : (p : ℕ) → (prop_at cls_desc p).composite ≡ true → (whole part : ℕ) → whole < 4 → part < 4
      → Contains (props_of cls_desc whole) p → ConformsTo cls_desc part (type_of cls_desc p) → whole < part
  composite_cases zero e w d lw ld has conforms = absurd (true≢false (sym e))
  composite_cases (suc zero) e w d lw ld has conforms =
      let first = has_classes w lw has in
      let second = one_above d 2 conforms.0 (omega arith) ld conforms.1 in
      omega (arith, first, second)
  composite_cases (suc (suc zero)) e w d lw ld has conforms = absurd (true≢false (sym e))
  composite_cases (suc (suc (suc zero))) e w d lw ld has conforms = absurd (true≢false (sym e))
  composite_cases (suc (suc (suc (suc zero)))) e w d lw ld has conforms = absurd (true≢false (sym e))
  composite_cases (suc (suc (suc (suc (suc zero))))) e w d lw ld has conforms = absurd (true≢false (sym e))
  composite_cases (suc (suc (suc (suc (suc (suc zero)))))) e w d lw ld has conforms = absurd (true≢false (sym e))
  composite_cases (suc (suc (suc (suc (suc (suc (suc zero))))))) e w d lw ld has conforms =
      let first = has_attrs w lw has in
      let second = one_above d 3 conforms.0 (omega arith) ld conforms.1 in
      omega (arith, first, second)
  composite_cases (suc (suc (suc (suc (suc (suc (suc (suc zero)))))))) e w d lw ld has conforms = absurd (true≢false (sym e))
  composite_cases (suc (suc (suc (suc (suc (suc (suc (suc (suc zero))))))))) e w d lw ld has conforms = absurd (true≢false (sym e))
  composite_cases (suc (suc (suc (suc (suc (suc (suc (suc (suc (suc zero)))))))))) e w d lw ld has conforms = absurd (true≢false (sym e))
  composite_cases (suc (suc (suc (suc (suc (suc (suc (suc (suc (suc (suc p))))))))))) e w d lw ld has conforms = absurd (true≢false (sym e))

  classes_of : (o a : ℕ) → IsContainer (model_of xs) o a → AreClasses (model_of xs) o a
  classes_of o a (p, contained) =
      let sound = sound_of (model_of xs) kept in
      let from = linked_reference (model_of xs) p a o sound contained.linked in
      let to = linked_partner (model_of xs) p a o sound contained.linked in
      record {
        whole = from.class;
        part = to.class;
        whole_is = from.class_is;
        part_is = to.class_is;
        order = composite_cases p contained.composite from.class to.class (class_low a from.class from.class_is) (class_low o to.class to.class_is) from.has to.conforms;
      }

  up_the_path : (path : List ℕ) (o a c d : ℕ) → IsContainerPath (model_of xs) o path a → class_at (model_of xs) o ≡ Some c → class_at (model_of xs) a ≡ Some d → d ≤ c
  up_the_path [] o a c d e hc hd = let same = same_Some c d (sym hc ∙ ap (class_at (model_of xs)) e ∙ hd) in omega (arith, same)
  up_the_path (b ∷ path) o a c d h hc hd =
      let here = classes_of o b h.0 in
      let rest = up_the_path path b a here.whole d h.1 here.whole_is hd in
      let same = same_Some here.part c (sym here.part_is ∙ hc) in
      let order = here.order in
      omega (arith, rest, same, order)

  no_circle : IsAcyclic (model_of xs)
  no_circle o (a, path, first, rest) =
      let here = classes_of o a first in
      let back = up_the_path path a o here.whole here.part rest here.whole_is here.part_is in
      let order = here.order in
      omega (arith, back, order)

pub source_valid : (n seed : ℕ) → Kept (source_data n seed) → Valid (source_data n seed)
source_valid n seed kept = record {
  kept = kept;
  bounds = bounds_kept (packages_objects n seed (package_count n)) (packages_enough n seed 0 (package_count n));
  acyclic = no_circle (packages_objects n seed (package_count n)) kept;
}

-- ---- how many objects there are

pub source_length : (n seed : ℕ) → 1 ≤ n → live_count (source_data n seed) ≡ source_count n seed
source_length n seed some =
    let live = these_live (IsBelow (package_count n) (100 * package_count n)) (packages_objects n seed (package_count n)) (packages_these n seed (package_count n)) in
    let many = length_joined n seed some in
    live ∙ many
