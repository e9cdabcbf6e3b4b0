-- No object of a source on its way has the identifier of the next one.
use Rattle.std.proofs.Common.{◌≡◌, ◌≤◌, ◌<◌, ◌+◌, ◌*◌, ◌/◌, ◌%◌, ◌^◌, ◌⊎◌, ℕ, zero, suc, List, [], ◌∷◌, ◌++◌, length, map, Option, None, Some, refl, sym, ◌∙◌, arith, inl, inr}
use Rattle.std.specs.Prelude.{option_map, count_by, is_some, cond}
use Rattle.std.specs.List.{AllByRecursion, flat_map, range_with_len}
use Rattle.std.proofs.lemmas.List.Sums.{sum_by-cons}
use Rattle.std.proofs.lemmas.Option.{none-some, same_Some}
use Rattle.object_tables.specs.Objects.{Object}
use Rattle.object_tables.specs.Models.{id_at, HasId}
use Rattle.example_models.specs.Source.{package_name, class_id, attribute_id, attribute_count, classes_in, package_object, attribute_object, class_objects, classes_objects, package_objects, packages_objects}
use Rattle.example_models.specs.Growing.{model_of, up_to_class, before_class, up_to_attribute}
use Rattle.example_models.proofs.Lists.{all_joined, all_weakened}
use Rattle.example_models.proofs.IdLaws.{packages_differ, classes_differ, attributes_differ, package_no_class, package_no_attribute, class_no_attribute}

-- what an object is, by its number among the packages or classes, or in its class
pub data Label : Type 0 where
  Package : (k : ℕ) → Label
  Class : (i : ℕ) → Label
  Attribute : (i j : ℕ) → Label

abbrev pub label_id : Label → List ℕ
label_id (Package k) = package_name k
label_id (Class i) = class_id i
label_id (Attribute i j) = attribute_id i j

-- the object is one of which this holds
abbrev pub IsOne : (Label → Type 0) → Option Object → Type 0
IsOne P x = (l : Label) × P l × (option_map (λ (ob : Object). ob.id) x ≡ Some (label_id l))

abbrev pub AreThese : (Label → Type 0) → List (Option Object) → Type 0
AreThese P xs = AllByRecursion (IsOne P) xs

these_joined : (P : Label → Type 0) (xs ys : List (Option Object)) → AreThese P xs → AreThese P ys → AreThese P (xs ++ ys)
these_joined P xs ys a b = all_joined (IsOne P) xs ys a b

these_too : (P Q : Label → Type 0) (xs : List (Option Object)) → ((l : Label) → P l → Q l) → AreThese P xs → AreThese Q xs
these_too P Q xs more h = all_weakened (IsOne P) (IsOne Q) xs (λ x one. (one.0, more one.0 one.1, one.2)) h

-- each of them is there
pub these_live : (P : Label → Type 0) (xs : List (Option Object)) → AreThese P xs → count_by is_some xs ≡ length xs
these_live P [] h = refl
these_live P (None ∷ xs) h = absurd (none-some (label_id h.0.0) h.0.2)
these_live P (Some ob ∷ xs) h =
    let rest = these_live P xs h.1 in
    let both = sum_by-cons (λ (o : Option Object). cond (is_some o) 1 0) (Some ob) xs in
    omega (arith, rest, both)

-- an identifier is that of one of them
these_ids : (P : Label → Type 0) (xs : List (Option Object)) (o : ℕ) (id : List ℕ) → AreThese P xs → id_at (model_of xs) o ≡ Some id → (l : Label) × P l × (label_id l ≡ id)
these_ids P [] o id h is = absurd (none-some id is)
these_ids P (x ∷ xs) zero id h is = (h.0.0, h.0.1, same_Some (label_id h.0.0) id (sym h.0.2 ∙ is))
these_ids P (x ∷ xs) (suc o) id h is = these_ids P xs o id h.1 is

-- ---- which objects there are

-- a package and a class below these numbers, and a small attribute of such a class
abbrev pub IsBelow : ℕ → ℕ → Label → Type 0
IsBelow packages classes (Package k) = k < packages
IsBelow packages classes (Class i) = i < classes
IsBelow packages classes (Attribute i j) = (i < classes) × (j < 4)

below_more : (p c q d : ℕ) → p ≤ q → c ≤ d → (l : Label) → IsBelow p c l → IsBelow q d l
below_more p c q d a b (Package k) h = omega (arith, a, h)
below_more p c q d a b (Class i) h = omega (arith, b, h)
below_more p c q d a b (Attribute i j) h = (omega (arith, b, h.0), h.1)

attributes_these : (seed packages i a n : ℕ) → a + n ≤ 4 → AreThese (IsBelow packages (i + 1)) (map (λ j. Some (attribute_object seed i j)) (range_with_len a n))
attributes_these seed packages i a zero few = tt
attributes_these seed packages i a (suc n) few =
    ((Attribute i a, (omega arith, omega (arith, few)), refl), attributes_these seed packages i (a + 1) n (omega (arith, few)))

class_these : (seed packages i n : ℕ) → n ≤ 4 → AreThese (IsBelow packages (i + 1)) (class_objects seed i n)
class_these seed packages i n few = ((Class i, omega arith, refl), attributes_these seed packages i 0 n (omega (arith, few)))

classes_these : (seed packages i n : ℕ) → AreThese (IsBelow packages (i + n)) (classes_objects seed i n)
classes_these seed packages i zero = tt
classes_these seed packages i (suc n) =
    these_joined (IsBelow packages (i + suc n)) (class_objects seed i (attribute_count seed i)) (classes_objects seed (i + 1) n)
    (these_too (IsBelow packages (i + 1)) (IsBelow packages (i + suc n)) (class_objects seed i (attribute_count seed i))
    (below_more packages (i + 1) packages (i + suc n) (omega arith) (omega arith)) (class_these seed packages i (attribute_count seed i) (omega arith)))
    (these_too (IsBelow packages (i + 1 + n)) (IsBelow packages (i + suc n)) (classes_objects seed (i + 1) n)
    (below_more packages (i + 1 + n) packages (i + suc n) (omega arith) (omega arith)) (classes_these seed packages (i + 1) n))

package_these : (seed k n : ℕ) → AreThese (IsBelow (k + 1) (100 * k + n)) (package_objects seed k n)
package_these seed k n = ((Package k, omega arith, refl), classes_these seed (k + 1) (100 * k) n)

packages_from : (n seed k count : ℕ) → AreThese (IsBelow (k + count) (100 * (k + count))) (flat_map (λ k. package_objects seed k (classes_in n k)) (range_with_len k count))
packages_from n seed k zero = tt
packages_from n seed k (suc count) =
    these_joined (IsBelow (k + suc count) (100 * (k + suc count))) (package_objects seed k (classes_in n k))
    (flat_map (λ k. package_objects seed k (classes_in n k)) (range_with_len (k + 1) count))
    (these_too (IsBelow (k + 1) (100 * k + classes_in n k)) (IsBelow (k + suc count) (100 * (k + suc count))) (package_objects seed k (classes_in n k))
    (below_more (k + 1) (100 * k + classes_in n k) (k + suc count) (100 * (k + suc count)) (omega arith) (omega arith)) (package_these seed k (classes_in n k)))
    (these_too (IsBelow (k + 1 + count) (100 * (k + 1 + count))) (IsBelow (k + suc count) (100 * (k + suc count)))
    (flat_map (λ k. package_objects seed k (classes_in n k)) (range_with_len (k + 1) count))
    (below_more (k + 1 + count) (100 * (k + 1 + count)) (k + suc count) (100 * (k + suc count)) (omega arith) (omega arith)) (packages_from n seed (k + 1) count))

pub packages_these : (n seed k : ℕ) → AreThese (IsBelow k (100 * k)) (packages_objects n seed k)
packages_these n seed k =
    these_too (IsBelow (0 + k) (100 * (0 + k))) (IsBelow k (100 * k)) (packages_objects n seed k)
    (below_more (0 + k) (100 * (0 + k)) k (100 * k) (omega arith) (omega arith)) (packages_from n seed 0 k)

up_to_these : (n seed k c : ℕ) → AreThese (IsBelow (k + 1) (100 * k + c)) (up_to_class n seed k c)
up_to_these n seed k c =
    these_joined (IsBelow (k + 1) (100 * k + c)) (packages_objects n seed k) (package_objects seed k c)
    (these_too (IsBelow k (100 * k)) (IsBelow (k + 1) (100 * k + c)) (packages_objects n seed k)
    (below_more k (100 * k) (k + 1) (100 * k + c) (omega arith) (omega arith)) (packages_these n seed k))
    (package_these seed k c)

before_these : (n seed i : ℕ) → AreThese (IsBelow (i / 100 + 1) i) (before_class n seed i)
before_these n seed i =
    these_joined (IsBelow (i / 100 + 1) i) (packages_objects n seed (i / 100))
    (Some (package_object seed (i / 100) (i % 100 + 1)) ∷ classes_objects seed (100 * (i / 100)) (i % 100))
    (these_too (IsBelow (i / 100) (100 * (i / 100))) (IsBelow (i / 100 + 1) i) (packages_objects n seed (i / 100))
    (below_more (i / 100) (100 * (i / 100)) (i / 100 + 1) i (omega arith) (omega arith)) (packages_these n seed (i / 100))) (
      (Package (i / 100), omega arith, refl),
      these_too (IsBelow (i / 100 + 1) (100 * (i / 100) + i % 100)) (IsBelow (i / 100 + 1) i) (classes_objects seed (100 * (i / 100)) (i % 100))
          (below_more (i / 100 + 1) (100 * (i / 100) + i % 100) (i / 100 + 1) i (omega arith) (omega arith))
          (classes_these seed (i / 100 + 1) (100 * (i / 100)) (i % 100)),
    )

-- before an attribute of a class
abbrev IsEarlier : ℕ → ℕ → Label → Type 0
IsEarlier i j (Package k) = k < i / 100 + 1
IsEarlier i j (Class h) = h < i + 1
IsEarlier i j (Attribute h l) = ((h < i) ⊎ ((h ≡ i) × (l < j))) × (h < i + 1) × (l < 4)

earlier_below : (i j : ℕ) (l : Label) → IsBelow (i / 100 + 1) i l → IsEarlier i j l
earlier_below i j (Package k) h = h
earlier_below i j (Class h) b = omega (arith, b)
earlier_below i j (Attribute h l) b = (inl b.0, omega (arith, b.0), b.1)

earlier_attributes : (seed i j a n : ℕ) → a + n ≤ j → j ≤ 4 → AreThese (IsEarlier i j) (map (λ j. Some (attribute_object seed i j)) (range_with_len a n))
earlier_attributes seed i j a zero few four = tt
earlier_attributes seed i j a (suc n) few four =
    ((Attribute i a, (inr (refl, omega (arith, few)), omega arith, omega (arith, few, four)), refl), earlier_attributes seed i j (a + 1) n (omega (arith, few)) four)

up_to_attribute_these : (n seed i j : ℕ) → j ≤ 4 → AreThese (IsEarlier i j) (up_to_attribute n seed i j)
up_to_attribute_these n seed i j four =
    these_joined (IsEarlier i j) (before_class n seed i) (class_objects seed i j)
    (these_too (IsBelow (i / 100 + 1) i) (IsEarlier i j) (before_class n seed i) (earlier_below i j) (before_these n seed i))
    ((Class i, omega arith, refl), earlier_attributes seed i j 0 j (omega arith) four)

-- ---- none has the identifier of the next one

pub new_package : (n seed k : ℕ) → k < 2 ^ 32 → HasId (model_of (packages_objects n seed k)) (package_name k) → ⊥
new_package n seed k few (o, is) = by (these_ids (IsBelow k (100 * k)) (packages_objects n seed k) o (package_name k) (packages_these n seed k) is)
  where
    apart : (l : Label) → IsBelow k (100 * k) l → label_id l ≡ package_name k → ⊥
    apart (Package j) b e = let same = packages_differ j k (omega (arith, b, few)) (omega (arith, few)) e in omega (arith, same, b)
    apart (Class i) b e = package_no_class k i (omega (arith, few)) (omega (arith, few, b)) (sym e)
    apart (Attribute i j) b e = package_no_attribute k i j (omega (arith, few)) (omega (arith, few, b.0)) (sym e)

    by : (l : Label) × IsBelow k (100 * k) l × (label_id l ≡ package_name k) → ⊥
    by (l, b, e) = apart l b e

pub new_class : (n seed i : ℕ) → i < 2 ^ 32 → HasId (model_of (up_to_class n seed (i / 100) (i % 100))) (class_id i) → ⊥
new_class n seed i few (o, is) =
    by (these_ids (IsBelow (i / 100 + 1) (100 * (i / 100) + i % 100)) (up_to_class n seed (i / 100) (i % 100)) o (class_id i) (up_to_these n seed (i / 100) (i % 100)) is)
  where
    apart : (l : Label) → IsBelow (i / 100 + 1) (100 * (i / 100) + i % 100) l → label_id l ≡ class_id i → ⊥
    apart (Package j) b e = package_no_class j i (omega (arith, few, b)) (omega (arith, few)) e
    apart (Class j) b e = let same = classes_differ j i (omega (arith, b, few)) (omega (arith, few)) e in omega (arith, same, b)
    apart (Attribute h j) b e = class_no_attribute i h j (omega (arith, few)) (omega (arith, few, b.0)) (sym e)

    by : (l : Label) × IsBelow (i / 100 + 1) (100 * (i / 100) + i % 100) l × (label_id l ≡ class_id i) → ⊥
    by (l, b, e) = apart l b e

pub new_attribute : (n seed i j : ℕ) → i < 2 ^ 32 → j < 4 → HasId (model_of (up_to_attribute n seed i j)) (attribute_id i j) → ⊥
new_attribute n seed i j few four (o, is) =
    by (these_ids (IsEarlier i j) (up_to_attribute n seed i j) o (attribute_id i j) (up_to_attribute_these n seed i j (omega (arith, four))) is)
  where
    twice : (h l : ℕ) → (h < i) ⊎ ((h ≡ i) × (l < j)) → h ≡ i → l ≡ j → ⊥
    twice h l (inl less) e f = omega (arith, less, e)
    twice h l (inr (_, less)) e f = omega (arith, less, f)

    apart : (l : Label) → IsEarlier i j l → label_id l ≡ attribute_id i j → ⊥
    apart (Package k) b e = package_no_attribute k i j (omega (arith, few, b)) (omega (arith, few)) e
    apart (Class h) b e = class_no_attribute h i j (omega (arith, few, b)) (omega (arith, few)) e
    apart (Attribute h l) b e =
        let same = attributes_differ h l i j (omega (arith, few, b.1)) (omega (arith, b.2)) (omega (arith, few)) (omega (arith, four)) e in
        twice h l b.0 same.0 same.1

    by : (l : Label) × IsEarlier i j l × (label_id l ≡ attribute_id i j) → ⊥
    by (l, b, e) = apart l b e
