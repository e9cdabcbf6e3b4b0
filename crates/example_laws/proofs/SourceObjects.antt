-- What the objects of a source are, by their numbers: packages, classes and attributes; and that no two of them have one number.
use Rattle.std.proofs.Common.{◌≡◌, ◌≤◌, ◌<◌, ◌+◌, ◌*◌, ◌/◌, ◌-◌, ℕ, zero, suc, List, ◌++◌, length, map, Option, None, Some, refl, ap, sym, ◌∙◌, arith, inl, inr}
use Rattle.std.specs.Prelude.{slice_index_or}
use Rattle.std.specs.List.{range_with_len}
use Rattle.std.proofs.lemmas.Bool.{cases_lt}
use Rattle.std.proofs.lemmas.List.{get_or_append_left, get_or-append_right}
use Rattle.std.proofs.lemmas.Option.{none-some, same_Some}
use Rattle.object_tables.specs.Objects.{Object}
use Rattle.object_tables.specs.Models.{object_at}
use Rattle.example_models.specs.Source.{package_count, classes_in, attribute_count, attributes_before, package_number, class_number, package_object, class_object, attribute_object, class_objects, classes_objects, package_objects, packages_objects, source_data}
use Rattle.example_models.proofs.RangeLaws.{flat_map_range_more, sum_joined, sum_range_more}
use Rattle.example_models.proofs.SizeLaws.{length_class, length_packages}
use Rattle.example_laws.specs.ExampleEntries.{attribute_number}

-- which object has a number
pub data IsSourceObject (n seed o : ℕ) (x : Object) : Type 0 where
  a_package : (k : ℕ) → k < package_count n → o ≡ package_number seed k → x ≡ package_object seed k (classes_in n k) → IsSourceObject n seed o x
  a_class : (i : ℕ) → i < n → o ≡ class_number seed i → x ≡ class_object seed i (attribute_count seed i) → IsSourceObject n seed o x
  an_attribute : (i j : ℕ) → i < n → j < attribute_count seed i → o ≡ attribute_number seed i j → x ≡ attribute_object seed i j → IsSourceObject n seed o x

abbrev there : List (Option Object) → ℕ → Option Object
there xs o = slice_index_or xs o None

-- ---- sums of attributes

before_next : (seed i : ℕ) → attributes_before seed (i + 1) ≡ attributes_before seed i + attribute_count seed i
before_next seed i = sum_range_more (attribute_count seed) i

before_more : (seed i d : ℕ) → attributes_before seed i ≤ attributes_before seed (i + d)
before_more seed i d = let joined = sum_joined (attribute_count seed) 0 i d in omega (arith, joined)

before_grows : (seed i l : ℕ) → i ≤ l → attributes_before seed i ≤ attributes_before seed l
before_grows seed i l le =
    let more = before_more seed i (l - i) in
    let same : i + (l - i) ≡ l = omega (arith, le) in
    let there : attributes_before seed (i + (l - i)) ≡ attributes_before seed l = ap (attributes_before seed) same in
    omega (arith, more, there)

-- ---- different numbers

package_before : (seed k l : ℕ) → k < l → package_number seed k < package_number seed l
package_before seed k l less =
    let grows = before_grows seed (100 * k) (100 * l) (omega (arith, less)) in
    omega (arith, grows, less)

class_before : (seed i l : ℕ) → i < l → class_number seed i + attribute_count seed i < class_number seed l
class_before seed i l less =
    let next = before_next seed i in
    let grows = before_grows seed (i + 1) l (omega (arith, less)) in
    let packages : i / 100 ≤ l / 100 = omega (arith, less) in
    omega (arith, next, grows, packages, less)

pub package_apart : (seed k l : ℕ) → package_number seed k ≡ package_number seed l → k ≡ l
package_apart seed k l same = elim (cases_lt k l) [
  | inl less ↦ let before = package_before seed k l less in absurd (omega (arith, before, same))
  | inr le ↦ elim (cases_lt l k) [ inl less ↦ let before = package_before seed l k less in absurd (omega (arith, before, same)) | inr ge ↦ omega (arith, le, ge) ]
]

pub class_apart : (seed i l : ℕ) → class_number seed i ≡ class_number seed l → i ≡ l
class_apart seed i l same = elim (cases_lt i l) [
  | inl less ↦ let before = class_before seed i l less in absurd (omega (arith, before, same))
  | inr le ↦ elim (cases_lt l i) [ inl less ↦ let before = class_before seed l i less in absurd (omega (arith, before, same)) | inr ge ↦ omega (arith, le, ge) ]
]

-- an attribute with a number between those of a class
pub owner_apart : (seed i l j h : ℕ) → j < attribute_count seed i → h < attribute_count seed l → class_number seed i + 1 + j ≡ class_number seed l + 1 + h → i ≡ l
owner_apart seed i l j h few less same = elim (cases_lt i l) [
  | inl below ↦ let before = class_before seed i l below in absurd (omega (arith, before, same, few))
  | inr le ↦ elim (cases_lt l i) [ inl below ↦ let before = class_before seed l i below in absurd (omega (arith, before, same, less)) | inr ge ↦ omega (arith, le, ge) ]
]

-- ---- attributes of a class

record IsAttributeAt (seed i a count o : ℕ) (x : Object) : Type 0 where
  number : ℕ
  is : a + o ≡ number
  few : number < a + count
  object : x ≡ attribute_object seed i number

attributes_at : (seed i a count o : ℕ) (x : Object) → there (map (λ j. Some (attribute_object seed i j)) (range_with_len a count)) o ≡ Some x → IsAttributeAt seed i a count o x
attributes_at seed i a zero o x h = absurd (none-some x h)
attributes_at seed i a (suc count) zero x h = record { number = a; is = omega arith; few = omega arith; object = sym (same_Some (attribute_object seed i a) x h) }
attributes_at seed i a (suc count) (suc o) x h =
    let r = attributes_at seed i (a + 1) count o x h in
    let is = r.is in
    let few = r.few in
    record { number = r.number; is = omega (arith, is); few = omega (arith, few); object = r.object }

-- ---- classes

data IsClassAt (seed a count o : ℕ) (x : Object) : Type 0 where
  of_class : (i : ℕ) → i < a + count → o ≡ class_number seed i → x ≡ class_object seed i (attribute_count seed i) → IsClassAt seed a count o x
  of_attribute : (i j : ℕ) → i < a + count → j < attribute_count seed i → o ≡ attribute_number seed i j → x ≡ attribute_object seed i j → IsClassAt seed a count o x

class_moved : (seed a b count more o p : ℕ) (x : Object) → a + count ≤ b + more → o ≡ p → IsClassAt seed a count o x → IsClassAt seed b more p x
class_moved seed a b count more o p x within same (of_class i less is object) = of_class i (omega (arith, within, less)) (sym same ∙ is) object
class_moved seed a b count more o p x within same (of_attribute i j less few is object) = of_attribute i j (omega (arith, within, less)) few (sym same ∙ is) object

first_class : (seed a count o : ℕ) (x : Object) → there (class_objects seed a (attribute_count seed a)) o ≡ Some x → IsClassAt seed a (suc count) (class_number seed a + o) x
first_class seed a count zero x h = of_class a (omega arith) (omega arith) (sym (same_Some (class_object seed a (attribute_count seed a)) x h))
first_class seed a count (suc o) x h =
    let r = attributes_at seed a 0 (attribute_count seed a) o x h in
    let is = r.is in
    let few = r.few in
    of_attribute a r.number (omega arith) (omega (arith, few)) (omega (arith, is)) r.object

-- the classes of a package stand one after another
classes_at : (seed k a count o : ℕ) (x : Object) → 100 * k ≤ a → a + count ≤ 100 * k + 100 → there (classes_objects seed a count) o ≡ Some x
    → IsClassAt seed a count (class_number seed a + o) x
classes_at seed k a zero o x low high h = absurd (none-some x h)
classes_at seed k a (suc count) o x low high h =
    let own : List (Option Object) = class_objects seed a (attribute_count seed a) in
    let rest : List (Option Object) = classes_objects seed (a + 1) count in
    let long = length_class seed a (attribute_count seed a) in
    elim (cases_lt o (length own)) [
      | inl less ↦ first_class seed a count o x (sym (get_or_append_left own rest None o less) ∙ h)
      | inr le ↦ later (λ p first last found. classes_at seed k (a + 1) count p x first last found) (o - length own) (omega (arith, le, long)) (sym (get_or-append_right own rest (length own) o None refl le) ∙ h)
    ]
  where
    later : ((p : ℕ) → 100 * k ≤ a + 1 → a + 1 + count ≤ 100 * k + 100 → there (classes_objects seed (a + 1) count) p ≡ Some x → IsClassAt seed (a + 1) count (class_number seed (a + 1) + p) x)
        → (p : ℕ) → p + attribute_count seed a + 1 ≡ o → there (classes_objects seed (a + 1) count) p ≡ Some x → IsClassAt seed a (suc count) (class_number seed a + o) x
    later again p is found = elim (cases_lt 0 count) [
      | inl some ↦
          let next = before_next seed a in
          let same : (a + 1) / 100 ≡ a / 100 = omega (arith, low, high, some) in
          let number : class_number seed (a + 1) + p ≡ class_number seed a + o = omega (arith, next, same, is) in
          class_moved seed (a + 1) a count (suc count) (class_number seed (a + 1) + p) (class_number seed a + o) x (omega arith) number
          (again p (omega (arith, low)) (omega (arith, high)) found)
      | inr none ↦
          let empty : count ≡ 0 = omega (arith, none) in
          absurd (none-some x (ap (λ c. there (classes_objects seed (a + 1) c) p) (sym empty) ∙ found))
    ]

-- ---- packages

package_at : (n seed k o : ℕ) (x : Object) → k < package_count n → there (package_objects seed k (classes_in n k)) o ≡ Some x → IsSourceObject n seed (package_number seed k + o) x
package_at n seed k zero x few h = IsSourceObject.a_package k few (omega arith) (sym (same_Some (package_object seed k (classes_in n k)) x h))
package_at n seed k (suc o) x few h =
    let low : 100 * k ≤ n = omega (arith, few) in
    by (classes_at seed k (100 * k) (classes_in n k) o x (omega arith) (omega arith) h)
  where
    first : class_number seed (100 * k) + o ≡ package_number seed k + suc o
    first = omega arith

    by : IsClassAt seed (100 * k) (classes_in n k) (class_number seed (100 * k) + o) x → IsSourceObject n seed (package_number seed k + suc o) x
    by (of_class i less is object) = IsSourceObject.a_class i (omega (arith, less, few)) (sym first ∙ is) object
    by (of_attribute i j less below is object) = IsSourceObject.an_attribute i j (omega (arith, less, few)) below (sym first ∙ is) object

object_moved : (n seed o p : ℕ) (x : Object) → o ≡ p → IsSourceObject n seed o x → IsSourceObject n seed p x
object_moved n seed o p x same (IsSourceObject.a_package k few is object) = IsSourceObject.a_package k few (sym same ∙ is) object
object_moved n seed o p x same (IsSourceObject.a_class i few is object) = IsSourceObject.a_class i few (sym same ∙ is) object
object_moved n seed o p x same (IsSourceObject.an_attribute i j few less is object) = IsSourceObject.an_attribute i j few less (sym same ∙ is) object

packages_at : (n seed count o : ℕ) (x : Object) → count ≤ package_count n → there (packages_objects n seed count) o ≡ Some x → IsSourceObject n seed o x
packages_at n seed zero o x few h = absurd (none-some x h)
packages_at n seed (suc k) o x few h =
    let before : List (Option Object) = packages_objects n seed k in
    let own : List (Option Object) = package_objects seed k (classes_in n k) in
    let one_more : suc k ≡ k + 1 = omega arith in
    let split : packages_objects n seed (suc k) ≡ before ++ own =
    ap (λ c. packages_objects n seed c) one_more ∙ flat_map_range_more (λ k. package_objects seed k (classes_in n k)) 0 k k (omega arith) in
    let found : there (before ++ own) o ≡ Some x = ap (λ xs. there xs o) (sym split) ∙ h in
    let long = length_packages n seed k (omega (arith, few)) in
    elim (cases_lt o (length before)) [
      | inl less ↦ packages_at n seed k o x (omega (arith, few)) (sym (get_or_append_left before own None o less) ∙ found)
      | inr le ↦ object_moved n seed (package_number seed k + (o - package_number seed k)) o x (omega (arith, le, long))
          (package_at n seed k (o - package_number seed k) x (omega (arith, few))
          (sym (get_or-append_right before own (package_number seed k) o None long (omega (arith, le, long))) ∙ found))
    ]

pub source_objects : (n seed o : ℕ) (x : Object) → object_at (source_data n seed) o ≡ Some x → IsSourceObject n seed o x
source_objects n seed o x h = packages_at n seed (package_count n) o x (omega arith) h
