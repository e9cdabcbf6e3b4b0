-- Which numbers are Integers of 64 bits, and what the checked operations on them give.
use Rattle.std.proofs.Common.{◌≡◌, ◌<◌, Bool, true, false, cond, refl, sym, ◌∙◌, ap, subst, arith, Option, None, Some}
use Rattle.std.specs.Prelude.{◌-◌, ℕ, zero, suc, ℤ, pos, negsuc, neg_ℤ, ◌+ℤ◌, List, ◌∷◌, nat_le, nat_abs, unsigned_abs, int_div, ◌&&◌, FitsSigned, SomeIff}
use Rattle.std.specs.Int.{w64, cast_unsigned, CanDivide}
use Rattle.std.specs.Ordering.{int_eq}
use Rattle.std.proofs.lemmas.Bool.Decides.{Decides-int_eq}
use Rattle.std.proofs.lemmas.Bool.{true≢false, leb-true, le-leb, lt-leb, and_parts, false_from_ne_true}
use Rattle.object_tables.specs.declared.value.Value.TheVariants as values
use Rattle.qvtr_semantics.specs.declared.datum.Datum.{Datum}
use Rattle.qvtr_semantics.specs.declared.datum.Datum.TheVariants.{Val}
use Rattle.qvtr_semantics.specs.declared.out.Out.TheVariants as outs
use Rattle.qvtr_semantics.specs.Outs.{given, and_then, integer_of_datum}
use Rattle.qvtr_semantics.specs.Integers.{is_integer, integer, absolute, quotient, sum_onto}
use Rattle.ocl_eval.specs.Results.{within, partial_sum}

pub fits : (z : ℤ) → FitsSigned w64 z → is_integer z ≡ true
fits (pos n) f = le-leb n 9223372036854775807 (omega (arith, f.sfits))
fits (negsuc n) f = ap (λ b. b && true) (le-leb n 9223372036854775807 (omega (arith, f.sfits)))

pub fits_back : (z : ℤ) → is_integer z ≡ true → FitsSigned w64 z
fits_back (pos n) h = record { sfits = omega (arith, leb-true n 9223372036854775807 h) }
fits_back (negsuc n) h = record { sfits = omega (arith, leb-true n 9223372036854775807 (and_parts (nat_le n 9223372036854775807) true h).0) }

pub integer_fits : (z : ℤ) → FitsSigned w64 z → outs.One (Val 0 (values.Int z)) ≡ integer z
integer_fits z f = sym (ap (λ b. cond b (outs.One (Val 0 (values.Int z))) outs.Invalid) (fits z f))

pub unfit : (n : ℕ) → 9223372036854775807 < n → outs.Invalid ≡ integer (pos n)
unfit n h = sym (ap (λ b. cond b (outs.One (Val 0 (values.Int (pos n)))) outs.Invalid) (lt-leb n 9223372036854775807 h))

-- what a checked operation gives, where it gives the number exactly where it fits
pub checked_integer : (r : Option ℤ) (z : ℤ) → SomeIff r (FitsSigned w64 z) z → given r (λ i. outs.One (Val 0 (values.Int i))) ≡ integer z
checked_integer None z h = sym (ap (λ b. cond b (outs.One (Val 0 (values.Int z))) outs.Invalid) (false_from_ne_true (is_integer z) (λ e. h (fits_back z e))))
checked_integer (Some i) z h = ap (λ x. outs.One (Val 0 (values.Int x))) h.1 ∙ integer_fits z h.0

-- ---- the absolute value

absolute_fits : (i : ℤ) → FitsSigned w64 i → FitsSigned w64 (neg_ℤ i) → FitsSigned w64 (pos (nat_abs i))
absolute_fits (pos n) f g = f
absolute_fits (negsuc n) f g = g

negated_fits : (i : ℤ) → FitsSigned w64 i → FitsSigned w64 (pos (nat_abs i)) → FitsSigned w64 (neg_ℤ i)
negated_fits (pos zero) f g = f
negated_fits (pos (suc n)) f g = record { sfits = omega (arith, f.sfits) }
negated_fits (negsuc n) f g = g

absolute_iff : (r : Option ℤ) (i z : ℤ) → z ≡ pos (nat_abs i) → FitsSigned w64 i → SomeIff r (FitsSigned w64 (neg_ℤ i)) z → SomeIff r (FitsSigned w64 z) z
absolute_iff None i z e f h = λ k. h (negated_fits i f (subst (λ x. FitsSigned w64 x) e k))
absolute_iff (Some x) i z e f h = (subst (λ y. FitsSigned w64 y) (sym e) (absolute_fits i f h.0), h.1)

pub checked_absolute : (r : Option ℤ) (i : ℤ) → FitsSigned w64 i → SomeIff r (FitsSigned w64 (neg_ℤ i)) (pos (unsigned_abs i)) → given r (λ x. outs.One (Val 0 (values.Int x))) ≡ absolute i
checked_absolute r i f h = checked_integer r (pos (nat_abs i)) (absolute_iff r i (pos (nat_abs i)) refl f h)

-- ---- the quotient

pub is_zero : (j : ℤ) → int_eq j (pos 0) ≡ true → j ≡ pos 0
is_zero j h = (Decides-int_eq j (pos 0)).0 h

pub nonzero : (j : ℤ) → FitsSigned w64 j → int_eq j (pos 0) ≡ false → 0 < cast_unsigned w64 j
nonzero (pos zero) f e = absurd (true≢false e)
nonzero (pos (suc n)) f e = omega arith
nonzero (negsuc n) f e = let h : n < 9223372036854775808 = f.sfits in let g : 0 < 18446744073709551616 - suc n = omega (arith, h) in g

quotient_iff : (r : Option ℤ) (i j : ℤ) → 0 < cast_unsigned w64 j → SomeIff r (CanDivide w64 i j) (int_div i j) → SomeIff r (FitsSigned w64 (int_div i j)) (int_div i j)
quotient_iff None i j z h = λ k. h (z, k)
quotient_iff (Some x) i j z h = (h.0.1, h.1)

by_zero : (r : Option ℤ) (i : ℤ) → SomeIff r (CanDivide w64 i (pos 0)) (int_div i (pos 0)) → given r (λ x. outs.One (Val 0 (values.Int x))) ≡ outs.Invalid
by_zero None i h = refl
by_zero (Some x) i h = absurd (let z : 0 < 0 = h.0.0 in omega (arith, z))

quotient_by : (b : Bool) (r : Option ℤ) (i j : ℤ) → int_eq j (pos 0) ≡ b → FitsSigned w64 j → SomeIff r (CanDivide w64 i j) (int_div i j)
    → given r (λ x. outs.One (Val 0 (values.Int x))) ≡ cond b outs.Invalid (integer (int_div i j))
quotient_by true r i j e f h = by_zero r i (subst (λ x. SomeIff r (CanDivide w64 i x) (int_div i x)) (is_zero j e) h)
quotient_by false r i j e f h = checked_integer r (int_div i j) (quotient_iff r i j (nonzero j f e) h)

pub checked_quotient : (r : Option ℤ) (i j : ℤ) → FitsSigned w64 j → SomeIff r (CanDivide w64 i j) (int_div i j) → given r (λ x. outs.One (Val 0 (values.Int x))) ≡ quotient i j
checked_quotient r i j f h = quotient_by (int_eq j (pos 0)) r i j refl f h

-- ---- sums

pub checked_partial : (r : Option ℤ) (z : ℤ) → SomeIff r (FitsSigned w64 z) z → r ≡ within z
checked_partial None z h = sym (ap (λ b. cond b (Some z) None) (false_from_ne_true (is_integer z) (λ e. h (fits_back z e))))
checked_partial (Some i) z h = ap (λ x. Some x) h.1 ∙ sym (ap (λ b. cond b (Some z) None) (fits z h.0))

within_step : (b : Bool) (z : ℤ) (ds : List Datum) → given (cond b (Some z) None) (λ t. sum_onto t ds) ≡ cond b (sum_onto z ds) outs.Invalid
within_step true z ds = refl
within_step false z ds = refl

onto_step : (o : Option ℤ) (s : ℤ) (ds : List Datum) → given (and_then o (λ i. within (s +ℤ i))) (λ t. sum_onto t ds) ≡ given o (λ i. cond (is_integer (s +ℤ i)) (sum_onto (s +ℤ i) ds) outs.Invalid)
onto_step None s ds = refl
onto_step (Some i) s ds = within_step (is_integer (s +ℤ i)) (s +ℤ i) ds

sum_by : (s : ℤ) (d : Datum) (ds : List Datum) → sum_onto s (d ∷ ds) ≡ given (partial_sum s d) (λ t. sum_onto t ds)
sum_by s d ds = sym (onto_step (integer_of_datum d) s ds)

pub sum_step : (s t : ℤ) (d : Datum) (ds : List Datum) → Some t ≡ partial_sum s d → sum_onto s (d ∷ ds) ≡ sum_onto t ds
sum_step s t d ds e = sum_by s d ds ∙ ap (λ o. given o (λ x. sum_onto x ds)) (sym e)

pub sum_end : (s : ℤ) (d : Datum) (ds : List Datum) → None ≡ partial_sum s d → sum_onto s (d ∷ ds) ≡ outs.Invalid
sum_end s d ds e = sum_by s d ds ∙ ap (λ o. given o (λ x. sum_onto x ds)) (sym e)
