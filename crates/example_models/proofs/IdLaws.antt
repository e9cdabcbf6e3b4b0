-- Identifiers of a source: each may be one, and those of different objects are different.
use Rattle.std.proofs.Common.{◌≡◌, ◌≢◌, ◌≤◌, ◌<◌, ◌+◌, ◌/◌, ◌%◌, ◌^◌, ◌==◌, ◌&&◌, ◌||◌, ℕ, suc, true, false, not, List, [], ◌∷◌, ◌++◌, length, drop, IsTrue, refl, ap, sym, ◌∙◌, arith, append_assoc}
use Rattle.std.specs.Prelude.{if◌then◌else◌}
use Rattle.std.specs.List.{list_any}
use Rattle.std.specs.Fmt.{decimal}
use Rattle.std.proofs.lemmas.Bool.{ne_eqb}
use Rattle.std.proofs.lemmas.Bool.Decides.{nat_tests}
use Rattle.std.proofs.lemmas.Fmt.{decimal_by_steps, decimal_injective}
use Rattle.std.proofs.lemmas.List.Folds.{list_all-append, list_any-append}
use Rattle.mof_metamodel.specs.Characters.{is_blank, is_storable_character, is_storable_text, is_identifier_text}
use Rattle.example_models.specs.Source.{package_name, class_name, attribute_name, inside, class_id, attribute_id}

-- ---- numbers in words

abbrev IsDigit : ℕ → Type 0
IsDigit c = (48 ≤ c) × (c ≤ 57)

abbrev AreDigits : List ℕ → Type 0
AreDigits [] = Unit {0}
AreDigits (c ∷ cs) = IsDigit c × AreDigits cs

digits_joined : (xs ys : List ℕ) → AreDigits xs → AreDigits ys → AreDigits (xs ++ ys)
digits_joined [] ys a b = b
digits_joined (x ∷ xs) ys a b = (a.0, digits_joined xs ys a.1 b)

decimal_digits : (n : ℕ) → n < 2 ^ 64 → AreDigits (decimal n)
decimal_digits = decimal_by_steps (λ n ds. AreDigits ds) one more
  where
    one : (n : ℕ) → n < 10 → AreDigits ((48 + n) ∷ [])
    one n few = ((omega arith, omega (arith, few)), tt)

    more : (n : ℕ) (ds : List ℕ) → 10 ≤ n → AreDigits ds → AreDigits (ds ++ ((48 + n % 10) ∷ []))
    more n ds many rest = digits_joined ds ((48 + n % 10) ∷ []) rest ((omega arith, omega arith), tt)

-- ---- what identifiers may be

-- each character may stand in an identifier
pub record IsFit (text : List ℕ) : Type 0 where
  pub storable : is_storable_text text ≡ true
  pub unbroken : list_any is_blank text ≡ false

storable_digit : (c : ℕ) → IsDigit c → is_storable_character c ≡ true
storable_digit c (low, high) = grind (arith, nat_tests)

digit_not_blank : (c : ℕ) → IsDigit c → is_blank c ≡ false
digit_not_blank c (low, high) = grind (arith, nat_tests)

digits_fit : (xs : List ℕ) → AreDigits xs → IsFit xs
digits_fit [] h = record { storable = refl; unbroken = refl }
digits_fit (x ∷ xs) h =
    let rest = digits_fit xs h.1 in
    record {
      storable = ap (λ b. b && is_storable_text xs) (storable_digit x h.0) ∙ rest.storable;
      unbroken = ap (λ b. b || list_any is_blank xs) (digit_not_blank x h.0) ∙ rest.unbroken;
    }

pub fits_joined : (xs ys : List ℕ) → IsFit xs → IsFit ys → IsFit (xs ++ ys)
fits_joined xs ys a b = record {
  storable = list_all-append is_storable_character xs ys ∙ ap (λ t. t && is_storable_text ys) a.storable ∙ b.storable;
  unbroken = list_any-append is_blank xs ys ∙ ap (λ t. t || list_any is_blank ys) a.unbroken ∙ b.unbroken;
}

pub numbered_fits : (text : List ℕ) (n : ℕ) → IsFit text → n < 2 ^ 64 → IsFit (text ++ decimal n)
numbered_fits text n fit few = fits_joined text (decimal n) fit (digits_fit (decimal n) (decimal_digits n few))

pub package_fits : (k : ℕ) → k < 2 ^ 64 → IsFit (package_name k)
package_fits k few = numbered_fits (112 ∷ []) k (record { storable = refl; unbroken = refl }) few

pub class_name_fits : (i : ℕ) → i < 2 ^ 64 → IsFit (class_name i)
class_name_fits i few = numbered_fits (67 ∷ []) i (record { storable = refl; unbroken = refl }) few

pub attribute_name_fits : (j : ℕ) → j < 2 ^ 64 → IsFit (attribute_name j)
attribute_name_fits j few = numbered_fits (97 ∷ []) j (record { storable = refl; unbroken = refl }) few

inside_fits : (outer name : List ℕ) → IsFit outer → IsFit name → IsFit (inside outer name)
inside_fits outer name a b = fits_joined outer (46 ∷ name) a (fits_joined (46 ∷ []) name (record { storable = refl; unbroken = refl }) b)

pub class_fits : (i : ℕ) → i < 2 ^ 64 → IsFit (class_id i)
class_fits i few = inside_fits (package_name (i / 100)) (class_name i) (package_fits (i / 100) (omega (arith, few))) (class_name_fits i few)

pub attribute_fits : (i j : ℕ) → i < 2 ^ 64 → j < 2 ^ 64 → IsFit (attribute_id i j)
attribute_fits i j few less = inside_fits (class_id i) (attribute_name j) (class_fits i few) (attribute_name_fits j less)

-- a text that begins with some character
pub fit_identifier : (c : ℕ) (cs : List ℕ) → IsFit (c ∷ cs) → IsTrue (is_identifier_text (c ∷ cs))
fit_identifier c cs fit =
    ap (λ b. b && not (list_any is_blank (c ∷ cs)) && not (length (c ∷ cs) == 0)) fit.storable
    ∙ ap (λ b. true && not b && not (length (c ∷ cs) == 0)) fit.unbroken
    ∙ ap not (ne_eqb (suc (length cs)) 0 (λ e. omega (arith, e)))

-- ---- different objects

-- what stands behind the first full stop, and before it
abbrev behind_stop : List ℕ → List ℕ
behind_stop [] = []
behind_stop (c ∷ cs) = if c == 46 then cs else behind_stop cs

abbrev before_stop : List ℕ → List ℕ
before_stop [] = []
before_stop (c ∷ cs) = if c == 46 then [] else c ∷ before_stop cs

not_stop : (c : ℕ) → IsDigit c → (c == 46) ≡ false
not_stop c (low, high) = ne_eqb c 46 (λ e. omega (arith, low, e))

behind_digits : (xs ys : List ℕ) → AreDigits xs → behind_stop (xs ++ 46 ∷ ys) ≡ ys
behind_digits [] ys h = refl
behind_digits (x ∷ xs) ys h = ap (λ b. if b then xs ++ 46 ∷ ys else behind_stop (xs ++ 46 ∷ ys)) (not_stop x h.0) ∙ behind_digits xs ys h.1

behind_none : (xs : List ℕ) → AreDigits xs → behind_stop xs ≡ []
behind_none [] h = refl
behind_none (x ∷ xs) h = ap (λ b. if b then xs else behind_stop xs) (not_stop x h.0) ∙ behind_none xs h.1

before_digits : (xs ys : List ℕ) → AreDigits xs → before_stop (xs ++ 46 ∷ ys) ≡ xs
before_digits [] ys h = refl
before_digits (x ∷ xs) ys h =
    ap (λ b. if b then [] else x ∷ before_stop (xs ++ 46 ∷ ys)) (not_stop x h.0) ∙ ap (λ zs. x ∷ zs) (before_digits xs ys h.1)

behind_package : (k : ℕ) → k < 2 ^ 64 → behind_stop (package_name k) ≡ []
behind_package k few = behind_none (decimal k) (decimal_digits k few)

behind_class : (i : ℕ) → i < 2 ^ 64 → behind_stop (class_id i) ≡ 67 ∷ decimal i
behind_class i few = behind_digits (decimal (i / 100)) (67 ∷ decimal i) (decimal_digits (i / 100) (omega (arith, few)))

behind_attribute : (i j : ℕ) → i < 2 ^ 64 → behind_stop (attribute_id i j) ≡ 67 ∷ decimal i ++ 46 ∷ 97 ∷ decimal j
behind_attribute i j few =
    ap behind_stop (append_assoc (112 ∷ decimal (i / 100)) (46 ∷ 67 ∷ decimal i) (46 ∷ 97 ∷ decimal j))
    ∙ behind_digits (decimal (i / 100)) (67 ∷ decimal i ++ 46 ∷ 97 ∷ decimal j) (decimal_digits (i / 100) (omega (arith, few)))

behind_attribute_twice : (i j : ℕ) → i < 2 ^ 64 → behind_stop (behind_stop (attribute_id i j)) ≡ 97 ∷ decimal j
behind_attribute_twice i j few = ap behind_stop (behind_attribute i j few) ∙ behind_digits (decimal i) (97 ∷ decimal j) (decimal_digits i few)

before_attribute : (i j : ℕ) → i < 2 ^ 64 → before_stop (behind_stop (attribute_id i j)) ≡ 67 ∷ decimal i
before_attribute i j few =
    ap before_stop (behind_attribute i j few) ∙ ap (λ (zs : List ℕ). 67 ∷ zs) (before_digits (decimal i) (97 ∷ decimal j) (decimal_digits i few))

pub packages_differ : (k l : ℕ) → k < 2 ^ 64 → l < 2 ^ 64 → package_name k ≡ package_name l → k ≡ l
packages_differ k l a b e = decimal_injective k l a b (ap (λ (xs : List ℕ). drop 1 xs) e)

pub classes_differ : (i j : ℕ) → i < 2 ^ 64 → j < 2 ^ 64 → class_id i ≡ class_id j → i ≡ j
classes_differ i j a b e =
    decimal_injective i j a b (ap (λ (xs : List ℕ). drop 1 xs) (sym (behind_class i a) ∙ ap behind_stop e ∙ behind_class j b))

pub attributes_differ : (i j k l : ℕ) → i < 2 ^ 64 → j < 2 ^ 64 → k < 2 ^ 64 → l < 2 ^ 64 → attribute_id i j ≡ attribute_id k l → (i ≡ k) × (j ≡ l)
attributes_differ i j k l a b c d e = (
  decimal_injective i k a c (ap (λ (xs : List ℕ). drop 1 xs) (sym (before_attribute i j a) ∙ ap (λ xs. before_stop (behind_stop xs)) e ∙ before_attribute k l c)),
  decimal_injective j l b d (ap (λ (xs : List ℕ). drop 1 xs) (sym (behind_attribute_twice i j a) ∙ ap (λ xs. behind_stop (behind_stop xs)) e ∙ behind_attribute_twice k l c)),
)

pub package_no_class : (k i : ℕ) → k < 2 ^ 64 → i < 2 ^ 64 → package_name k ≢ class_id i
package_no_class k i a b e = let apart : [] ≡ 67 ∷ decimal i = sym (behind_package k a) ∙ ap behind_stop e ∙ behind_class i b in cc

pub package_no_attribute : (k i j : ℕ) → k < 2 ^ 64 → i < 2 ^ 64 → package_name k ≢ attribute_id i j
package_no_attribute k i j a b e =
    let apart : [] ≡ 67 ∷ decimal i ++ 46 ∷ 97 ∷ decimal j = sym (behind_package k a) ∙ ap behind_stop e ∙ behind_attribute i j b in cc

pub class_no_attribute : (i k l : ℕ) → i < 2 ^ 64 → k < 2 ^ 64 → class_id i ≢ attribute_id k l
class_no_attribute i k l a b e =
    let alone : behind_stop (behind_stop (class_id i)) ≡ [] = ap behind_stop (behind_class i a) ∙ behind_none (decimal i) (decimal_digits i a) in
    let apart : [] ≡ 97 ∷ decimal l = sym alone ∙ ap (λ xs. behind_stop (behind_stop xs)) e ∙ behind_attribute_twice k l b in cc
