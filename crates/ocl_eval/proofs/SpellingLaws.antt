-- Reading from left to right gives the Integer that the characters spell.
use Rattle.std.proofs.Common.{◌≡◌, ℕ, zero, suc, ◌+◌, ◌*◌, ◌<◌, Bool, true, false, cond, List, [], ◌∷◌, length, refl, sym, ◌∙◌, ap, arith, Option, None, Some, ◌⊎◌, inl, inr}
use Rattle.std.specs.Prelude.{◌-◌, min, ◌==◌, ◌&&◌, ℤ, pos, negsuc, neg_ℤ, ◌-ℤ◌, ◌+ℤ◌, FitsSigned, SomeIff}
use Rattle.std.specs.Int.{w64}
use Rattle.std.specs.List.{fold, list_all}
use Rattle.std.specs.Option.{option_map}
use Rattle.std.proofs.lemmas.Int.{ints}
use Rattle.std.proofs.lemmas.Bool.{lt-leb, lt-ltb, cases_lt}
use Rattle.object_tables.specs.declared.value.Value.TheVariants as values
use Rattle.qvtr_semantics.specs.declared.datum.Datum.TheVariants.{Val}
use Rattle.qvtr_semantics.specs.declared.out.Out.{Out}
use Rattle.qvtr_semantics.specs.declared.out.Out.TheVariants as outs
use Rattle.qvtr_semantics.specs.Outs.{given}
use Rattle.qvtr_semantics.specs.Integers.{integer}
use Rattle.qvtr_semantics.specs.Strings.{is_digit, number_onto, spelled_number, to_integer}
use Rattle.ocl_eval.specs.declared.spelling.Spelling.TheVariants.{Start, Sign, Digits, Other}
use Rattle.ocl_eval.specs.Spellings.{capped, further, spelled_on, signed, spelled_out}
use Rattle.ocl_eval.proofs.IntegerLaws.{checked_integer, unfit}

-- ---- numbers that are kept up to a greatest one

pub capped_sum : (n d : ℕ) → min (min (n * 10) 18446744073709551615 + d) 18446744073709551615 ≡ capped (10 * n + d)
capped_sum n d = omega arith

capped_more : (x d : ℕ) → capped (10 * capped x + d) ≡ capped (10 * x + d)
capped_more x d = omega arith

unfit_below : (n : ℕ) → 9223372036854775808 < n → outs.Invalid ≡ integer (neg_ℤ (pos n))
unfit_below zero h = absurd (omega (arith, h))
unfit_below (suc k) h = sym (ap (λ b. cond (b && true) (outs.One (Val 0 (values.Int (negsuc k)))) outs.Invalid) (lt-leb k 9223372036854775807 (omega (arith, h))))

signed_unfit : (negative : Bool) (n : ℕ) → 9223372036854775808 < n → outs.Invalid ≡ integer (signed negative n)
signed_unfit true n h = unfit_below n h
signed_unfit false n h = unfit n (omega (arith, h))

capped_cases : (x : ℕ) → (capped x ≡ x) ⊎ ((9223372036854775808 < capped x) × (9223372036854775808 < x))
capped_cases x = elim (cases_lt 18446744073709551615 x) [ inl h ↦ inr (omega (arith, h), omega (arith, h)) | inr h ↦ inl (omega (arith, h)) ]

capped_value : (negative : Bool) (x : ℕ) → integer (signed negative (capped x)) ≡ integer (signed negative x)
capped_value negative x = elim (capped_cases x) [
  | inl e ↦ ap (λ n. integer (signed negative n)) e
  | inr h ↦ sym (signed_unfit negative (capped x) h.0) ∙ signed_unfit negative x h.1
]

-- ---- what a checked step from 0 gives

from_zero : (n : ℕ) → pos 0 -ℤ pos n ≡ neg_ℤ (pos n)
from_zero n = omega (arith, ints)

pub down_from_zero : (r : Option ℤ) (n : ℕ) → SomeIff r (FitsSigned w64 (pos 0 -ℤ pos n)) (pos 0 -ℤ pos n) → given r (λ i. outs.One (Val 0 (values.Int i))) ≡ integer (neg_ℤ (pos n))
down_from_zero r n h = checked_integer r (pos 0 -ℤ pos n) h ∙ ap integer (from_zero n)

pub up_from_zero : (r : Option ℤ) (n : ℕ) → SomeIff r (FitsSigned w64 (pos 0 +ℤ pos n)) (pos 0 +ℤ pos n) → given r (λ i. outs.One (Val 0 (values.Int i))) ≡ integer (pos n)
up_from_zero r n h = checked_integer r (pos 0 +ℤ pos n) h ∙ ap (λ k. integer (pos k)) (omega arith)

-- ---- the characters one after another

other_stays : (cs : List ℕ) → fold spelled_on Other cs ≡ Other
other_stays [] = refl
other_stays (c ∷ cs) = other_stays cs

-- the value that digits behind a number spell
abbrev digits_behind : Bool → ℕ → List ℕ → Out
digits_behind negative x cs = given (cond (list_all is_digit cs) (Some (number_onto x cs)) None) (λ n. integer (signed negative n))

-- one digit more, where those behind it are read
read_digit : (b : Bool) (negative : Bool) (x c : ℕ) (cs : List ℕ)
    → spelled_out (fold spelled_on (Digits negative (capped (10 * x + (c - 48)))) cs) ≡ digits_behind negative (10 * x + (c - 48)) cs
    → spelled_out (fold spelled_on (cond b (Digits negative (capped (10 * capped x + (c - 48)))) Other) cs)
    ≡ given (cond (b && list_all is_digit cs) (Some (number_onto (10 * x + (c - 48)) cs)) None) (λ n. integer (signed negative n))
read_digit true negative x c cs behind = ap (λ n. spelled_out (fold spelled_on (Digits negative n) cs)) (capped_more x (c - 48)) ∙ behind
read_digit false negative x c cs behind = ap spelled_out (other_stays cs)

read_digits : (negative : Bool) (x : ℕ) (cs : List ℕ) → spelled_out (fold spelled_on (Digits negative (capped x)) cs) ≡ digits_behind negative x cs
read_digits negative x [] = capped_value negative x
read_digits negative x (c ∷ cs) = read_digit (is_digit c) negative x c cs (read_digits negative (10 * x + (c - 48)) cs)

given_mapped : (o : Option ℕ) (f : ℕ → ℤ) → given o (λ n. integer (f n)) ≡ given (option_map f o) integer
given_mapped None f = refl
given_mapped (Some n) f = refl

-- where there is a digit or more
number_spelled : (c : ℕ) (cs : List ℕ) → cond (list_all is_digit (c ∷ cs)) (Some (number_onto 0 (c ∷ cs))) None ≡ spelled_number (c ∷ cs)
number_spelled c cs = ap (λ b. cond (b && list_all is_digit (c ∷ cs)) (Some (number_onto 0 (c ∷ cs))) None) (sym (lt-ltb 0 (length (c ∷ cs)) (omega arith)))

read_number : (negative : Bool) (c : ℕ) (cs : List ℕ) → spelled_out (fold spelled_on (Digits negative 0) (c ∷ cs)) ≡ given (option_map (signed negative) (spelled_number (c ∷ cs))) integer
read_number negative c cs = read_digits negative 0 (c ∷ cs) ∙ ap (λ o. given o (λ n. integer (signed negative n))) (number_spelled c cs) ∙ given_mapped (spelled_number (c ∷ cs)) (signed negative)

behind_sign : (cs : List ℕ) → spelled_out (fold spelled_on Sign cs) ≡ given (option_map (λ n. neg_ℤ (pos n)) (spelled_number cs)) integer
behind_sign [] = refl
behind_sign (c ∷ cs) = read_number true c cs

read_first : (b : Bool) (c : ℕ) (cs : List ℕ) → spelled_out (fold spelled_on (cond b Sign (further false 0 c)) cs)
    ≡ given (cond b (option_map (λ n. neg_ℤ (pos n)) (spelled_number cs)) (option_map pos (spelled_number (c ∷ cs)))) integer
read_first true c cs = behind_sign cs
read_first false c cs = read_number false c cs

pub spelled : (cs : List ℕ) → spelled_out (fold spelled_on Start cs) ≡ to_integer cs
spelled [] = refl
spelled (c ∷ cs) = read_first (c == 45) c cs
