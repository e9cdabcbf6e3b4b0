-- The operations that make texts make storable ones of storable ones.
use Rattle.std.proofs.Common.{◌≡◌, ◌≤◌, ◌<◌, ◌+◌, ◌/◌, ◌%◌, ℕ, zero, suc, ℤ, pos, negsuc, Bool, true, false, ◌&&◌, List, [], ◌∷◌, ◌++◌, take, drop, refl, arith}
use Rattle.std.specs.Prelude.{◌==◌, nat_lt}
use Rattle.std.specs.Fmt.{digit_glyph, digits_onto, digits, decimal, signed_decimal}
use Rattle.std.proofs.lemmas.Bool.{and_parts, and_from}
use Rattle.std.proofs.lemmas.Bool.Decides.{nat_tests}
use Rattle.mof_metamodel.specs.Characters.{is_storable_character, is_storable_text}
use Rattle.evaluation_laws.proofs.ListLaws.{either_way}

-- ---- parts

pub storable_append : (s t : List ℕ) → is_storable_text s ≡ true → is_storable_text t ≡ true → is_storable_text (s ++ t) ≡ true
storable_append [] t one other = other
storable_append (c ∷ s) t one other =
    let parts = and_parts (is_storable_character c) (is_storable_text s) one in
    and_from (is_storable_character c) (is_storable_text (s ++ t)) parts.0 (storable_append s t parts.1 other)

pub storable_take : (n : ℕ) (s : List ℕ) → is_storable_text s ≡ true → is_storable_text (take n s) ≡ true
storable_take zero s is = refl
storable_take (suc n) [] is = refl
storable_take (suc n) (c ∷ s) is =
    let parts = and_parts (is_storable_character c) (is_storable_text s) is in
    and_from (is_storable_character c) (is_storable_text (take n s)) parts.0 (storable_take n s parts.1)

pub storable_drop : (n : ℕ) (s : List ℕ) → is_storable_text s ≡ true → is_storable_text (drop n s) ≡ true
storable_drop zero s is = is
storable_drop (suc n) [] is = refl
storable_drop (suc n) (c ∷ s) is = storable_drop n s (and_parts (is_storable_character c) (is_storable_text s) is).1

-- ---- numbers

-- the characters of digits are among these
storable_plain : (c : ℕ) → 32 ≤ c → c < 1000 → is_storable_character c ≡ true
storable_plain c low high = grind (arith, nat_tests)

storable_glyph : (d : ℕ) → d < 10 → is_storable_character (digit_glyph false d) ≡ true
storable_glyph d small =
    either_way (λ c. is_storable_character c ≡ true) (nat_lt d 10) (48 + d) (87 + d)
    (storable_plain (48 + d) (omega arith) (omega arith)) (storable_plain (87 + d) (omega arith) (omega arith))

storable_digits : (k n : ℕ) (acc : List ℕ) → is_storable_text acc ≡ true → is_storable_text (digits_onto k 10 false n acc) ≡ true
storable_digits zero n acc is = is
storable_digits (suc k) n acc is =
    let more : is_storable_text (digit_glyph false (n % 10) ∷ acc) ≡ true =
    and_from (is_storable_character (digit_glyph false (n % 10))) (is_storable_text acc) (storable_glyph (n % 10) (omega arith)) is in
    either_way (λ t. is_storable_text t ≡ true) (n / 10 == 0) (digit_glyph false (n % 10) ∷ acc) (digits_onto k 10 false (n / 10) (digit_glyph false (n % 10) ∷ acc))
    more (storable_digits k (n / 10) (digit_glyph false (n % 10) ∷ acc) more)

storable_decimal : (n : ℕ) → is_storable_text (decimal n) ≡ true
unfolding digits
storable_decimal n = storable_digits 64 n [] refl

pub storable_integer : (i : ℤ) → is_storable_text (signed_decimal i) ≡ true
storable_integer (pos n) = storable_decimal n
storable_integer (negsuc n) = and_from (is_storable_character 45) (is_storable_text (decimal (suc n))) refl (storable_decimal (suc n))
