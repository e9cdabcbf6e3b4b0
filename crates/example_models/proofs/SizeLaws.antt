-- How many objects there are at each step, and that they are fewer than a model may have.
use Rattle.std.proofs.Common.{◌≡◌, ◌≤◌, ◌<◌, ◌+◌, ◌*◌, ◌/◌, ◌%◌, ℕ, zero, suc, List, length, Option, Some, refl, ap, arith}
use Rattle.std.specs.Prelude.{sum_by}
use Rattle.std.specs.List.{range_with_len}
use Rattle.std.proofs.lemmas.List.{length-append}
use Rattle.std.proofs.lemmas.List.FromFn.{length-map-range_with_len}
use Rattle.std.proofs.lemmas.List.Sums.{sum_by-cons}
use Rattle.object_tables.specs.Objects.{Object}
use Rattle.example_models.specs.Source.{package_count, classes_in, attribute_count, attributes_before, package_number, class_number, attribute_object, class_objects, classes_objects, package_objects, packages_objects, source_count}
use Rattle.example_models.specs.Growing.{up_to_class}
use Rattle.example_models.proofs.RangeLaws.{flat_map_range_more, sum_joined, sum_range_more}

pub length_class : (seed i attributes : ℕ) → length (class_objects seed i attributes) ≡ attributes + 1
length_class seed i attributes =
    let rest = length-map-range_with_len (λ j. Some (attribute_object seed i j)) 0 attributes in
    omega (arith, rest)

length_classes : (seed i n : ℕ) → length (classes_objects seed i n) ≡ n + sum_by (attribute_count seed) (range_with_len i n)
length_classes seed i zero = refl
length_classes seed i (suc n) =
    let first = length-append (class_objects seed i (attribute_count seed i)) (classes_objects seed (i + 1) n) in
    let one = length_class seed i (attribute_count seed i) in
    let rest = length_classes seed (i + 1) n in
    let sum = sum_by-cons (attribute_count seed) i (range_with_len (i + 1) n) in
    omega (arith, first, one, rest, sum)

-- a package with so many classes, from its number on
length_package : (seed k n : ℕ) → length (package_objects seed k n) + attributes_before seed (100 * k) ≡ 1 + n + attributes_before seed (100 * k + n)
length_package seed k n =
    let rest = length_classes seed (100 * k) n in
    let joined = sum_joined (attribute_count seed) 0 (100 * k) n in
    let from : 0 + 100 * k ≡ 100 * k = omega arith in
    let there : sum_by (attribute_count seed) (range_with_len (0 + 100 * k) n) ≡ sum_by (attribute_count seed) (range_with_len (100 * k) n)
    = ap (λ a. sum_by (attribute_count seed) (range_with_len a n)) from in
    omega (arith, rest, joined, there)

-- the objects before a package are as many as its number
pub length_packages : (n seed k : ℕ) → 100 * k ≤ n → length (packages_objects n seed k) ≡ package_number seed k
length_packages n seed zero few = refl
length_packages n seed (suc k) few =
    let full : classes_in n k ≡ 100 = omega (arith, few) in
    let before = length_packages n seed k (omega (arith, few)) in
    let more = ap (λ (ys : List (Option Object)). length ys) (flat_map_range_more (λ k. package_objects seed k (classes_in n k)) 0 k k (omega arith)) in
    let both = length-append (packages_objects n seed k) (package_objects seed k (classes_in n k)) in
    let one = length_package seed k (classes_in n k) in
    let one_more : suc k ≡ k + 1 = omega arith in
    let counted : length (packages_objects n seed (suc k)) ≡ length (packages_objects n seed (k + 1)) = ap (λ c. length (packages_objects n seed c)) one_more in
    let last : 100 * k + classes_in n k ≡ 100 * suc k = omega (arith, full) in
    let there : attributes_before seed (100 * k + classes_in n k) ≡ attributes_before seed (100 * suc k) = ap (attributes_before seed) last in
    omega (arith, full, before, more, both, one, counted, there)

-- so are those before a class
pub length_up_to_class : (n seed k c : ℕ) → 100 * k + c ≤ n → c < 100 → length (up_to_class n seed k c) ≡ class_number seed (100 * k + c)
length_up_to_class n seed k c few less =
    let before = length_packages n seed k (omega (arith, few)) in
    let both = length-append (packages_objects n seed k) (package_objects seed k c) in
    let one = length_package seed k c in
    let at : (100 * k + c) / 100 ≡ k = omega (arith, less) in
    omega (arith, before, both, one, at)

-- all objects of a source
pub length_joined : (n seed : ℕ) → 1 ≤ n → length (packages_objects n seed (package_count n)) ≡ source_count n seed
length_joined n seed some = by ((n + 99) / 100) refl
  where
    by : (count : ℕ) → (n + 99) / 100 ≡ count → length (packages_objects n seed (package_count n)) ≡ source_count n seed
    by zero e = absurd (omega (arith, e, some))
    by (suc k) e =
        let low : 100 * k ≤ n = omega (arith, e) in
        let last : package_count n ≡ k + 1 = omega (arith, e) in
        let before = length_packages n seed k low in
        let more = ap (λ (ys : List (Option Object)). length ys) (flat_map_range_more (λ k. package_objects seed k (classes_in n k)) 0 k k (omega arith)) in
        let both = length-append (packages_objects n seed k) (package_objects seed k (classes_in n k)) in
        let one = length_package seed k (classes_in n k) in
        let end : 100 * k + classes_in n k ≡ n = omega (arith, e) in
        let all : attributes_before seed (100 * k + classes_in n k) ≡ attributes_before seed n = ap (attributes_before seed) end in
        let counted : length (packages_objects n seed (package_count n)) ≡ length (packages_objects n seed (k + 1)) = ap (λ c. length (packages_objects n seed c)) last in
        omega (arith, counted, end, last, before, more, both, one, all)

-- ---- few enough

-- a class has at most two attributes more than one and a half on the average
pub few_attributes : (seed i : ℕ) → attributes_before seed i + ((i + seed) % 4) / 2 ≤ 2 * i + 1
few_attributes seed zero = omega arith
few_attributes seed (suc i) =
    let before = few_attributes seed i in
    let more = sum_range_more (attribute_count seed) i in
    let one_more : suc i ≡ i + 1 = omega arith in
    let next : attributes_before seed (suc i) ≡ attributes_before seed (i + 1) = ap (attributes_before seed) one_more in
    omega (arith, before, more, next)
