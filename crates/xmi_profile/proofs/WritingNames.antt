-- Names of a metamodel in markup, and texts of storable characters.
use Rattle.std.proofs.Common.{◌≡◌, ℕ, zero, suc, ◌<◌, ◌/◌, ◌%◌, Bool, true, false, cond, List, [], ◌∷◌, length, refl, sym, ◌∙◌, ap, ap₂, arith}
use Rattle.std.specs.Prelude.{◌==◌, ◌||◌, ◌&&◌, not, ℤ, pos, negsuc}
use Rattle.std.specs.List.{list_all}
use Rattle.std.specs.Fmt.{digit_glyph, digits_onto, digits, decimal, signed_decimal}
use Rattle.std.proofs.lemmas.Bool.{and_parts, eqb-true, true≢false}
use Rattle.std.proofs.lemmas.Bool.Decides.{nat_tests}
use Rattle.mof_metamodel.specs.Characters.{is_storable_character, is_storable_text}
use Rattle.mof_metamodel.specs.WellMeta as meta
use Rattle.mof_metamodel.specs.WellMeta.{is_letter, is_digit, is_name_character, begins_with_digit}
use Rattle.xmi_text.specs.ByteClass.{begins_name, continues_name}
use Rattle.xmi_text.specs.Names.{is_far, goes_on, is_name}

-- ---- characters of names

not_colon : (c : ℕ) → is_name_character c ≡ true → (c == 58) ≡ false
not_colon c h = by (c == 58) refl
  where
    by : (t : Bool) → (c == 58) ≡ t → t ≡ false
    by true e = absurd (true≢false (sym h ∙ ap is_name_character (eqb-true c 58 e)))
    by false e = refl

goes_one : (c : ℕ) → is_name_character c ≡ true → (continues_name c || is_far c) ≡ true
goes_one c h = grind (arith, nat_tests)

begins_one : (c : ℕ) → is_name_character c ≡ true → is_digit c ≡ false → (begins_name c || is_far c) ≡ true
begins_one c h n = grind (arith, nat_tests)

pub goes_all : (colon : Bool) (cs : List ℕ) → list_all is_name_character cs ≡ true → goes_on colon cs ≡ true
goes_all colon [] h = refl
goes_all colon (c ∷ cs) h =
    let both = and_parts (is_name_character c) (list_all is_name_character cs) h in
    ap (λ t. cond t (not colon && goes_on true cs) ((continues_name c || is_far c) && goes_on colon cs)) (not_colon c both.0)
    ∙ ap₂ (λ s t. s && t) (goes_one c both.0) (goes_all colon cs both.1)

no_digit : (c : ℕ) → not (begins_with_digit (c ∷ [])) ≡ true → is_digit c ≡ false
no_digit c h = by (is_digit c) refl
  where
    by : (t : Bool) → is_digit c ≡ t → t ≡ false
    by true e = absurd (true≢false (sym h ∙ ap (λ b. not (b || false)) e))
    by false e = refl

-- a name of a metamodel is a name of an element or an attribute
pub markup_name : (name : List ℕ) → meta.is_name name ≡ true → is_name name ≡ true
markup_name [] h = absurd cc
markup_name (c ∷ cs) h =
    let parts = and_parts (not (length (c ∷ cs) == 0) && not (begins_with_digit (c ∷ cs))) (list_all is_name_character (c ∷ cs)) h in
    let heads = and_parts (not (length (c ∷ cs) == 0)) (not (begins_with_digit (c ∷ cs))) parts.0 in
    let chars = and_parts (is_name_character c) (list_all is_name_character cs) parts.1 in
    ap₂ (λ s t. s && t) (begins_one c chars.0 (no_digit c heads.1)) (goes_all false cs chars.1)

-- and so it is behind a prefix
pub prefixed_name : (name : List ℕ) → meta.is_name name ≡ true → is_name (109 ∷ 58 ∷ name) ≡ true
prefixed_name name h =
    let parts = and_parts (not (length name == 0) && not (begins_with_digit name)) (list_all is_name_character name) h in
    goes_all true name parts.1

-- ---- storable texts

name_character_storable : (c : ℕ) → is_name_character c ≡ true → is_storable_character c ≡ true
name_character_storable c h = grind (arith, nat_tests)

pub name_storable : (name : List ℕ) → list_all is_name_character name ≡ true → is_storable_text name ≡ true
name_storable [] h = refl
name_storable (c ∷ cs) h =
    let both = and_parts (is_name_character c) (list_all is_name_character cs) h in
    ap₂ (λ s t. s && t) (name_character_storable c both.0) (name_storable cs both.1)

digit_storable : (d : ℕ) → d < 10 → is_storable_character (digit_glyph false d) ≡ true
digit_storable d h = grind (arith, nat_tests)

glyph_storable : (n : ℕ) → is_storable_character (digit_glyph false (n % 10)) ≡ true
glyph_storable n =
    let small : n % 10 < 10 = omega arith in
    digit_storable (n % 10) small

either_storable : (t : Bool) (a b : List ℕ) → is_storable_text a ≡ true → is_storable_text b ≡ true → is_storable_text (cond t a b) ≡ true
either_storable true a b p q = p
either_storable false a b p q = q

digits_storable : (k n : ℕ) (acc : List ℕ) → is_storable_text acc ≡ true → is_storable_text (digits_onto k 10 false n acc) ≡ true
digits_storable zero n acc h = h
digits_storable (suc k) n acc h =
    let more : is_storable_text (digit_glyph false (n % 10) ∷ acc) ≡ true = ap₂ (λ s t. s && t) (glyph_storable n) h in
    either_storable (n / 10 == 0) (digit_glyph false (n % 10) ∷ acc) (digits_onto k 10 false (n / 10) (digit_glyph false (n % 10) ∷ acc)) more
    (digits_storable k (n / 10) (digit_glyph false (n % 10) ∷ acc) more)

decimal_storable : (n : ℕ) → is_storable_text (decimal n) ≡ true
unfolding digits
decimal_storable n = digits_storable 64 n [] refl

pub number_storable : (i : ℤ) → is_storable_text (signed_decimal i) ≡ true
number_storable (pos n) = decimal_storable n
number_storable (negsuc n) = decimal_storable (suc n)
