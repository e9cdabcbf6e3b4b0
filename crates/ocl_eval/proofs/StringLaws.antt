-- The characters of words and numbers, and the length of two texts together.
use Rattle.std.proofs.Common.{◌≡◌, ℕ, ◌<◌, ◌≤◌, List, ◌++◌, codes, length, refl, arith, length-append, Bool, true, false}
use Rattle.std.specs.Prelude.{ℤ, nat_le, ◌-◌, FitsSigned}
use Rattle.std.specs.Int.{w64}
use Rattle.std.specs.Fmt.{signed_decimal}
use Rattle.std.specs.Str.{chars}
use Rattle.std.proofs.lemmas.Bool.{le-leb, lt-leb, leb-true, leb-false}
use Rattle.std.proofs.lemmas.Str.{chars-IsAscii}
use Rattle.std.proofs.lemmas.Fmt.{IsAscii-signed}

pub true_characters : chars (codes "true") ≡ codes "true"
unfolding chars
true_characters = refl

pub false_characters : chars (codes "false") ≡ codes "false"
unfolding chars
false_characters = refl

pub signed_characters : (z : ℤ) → FitsSigned w64 z → chars (signed_decimal z) ≡ signed_decimal z
signed_characters z f = chars-IsAscii (signed_decimal z) (IsAscii-signed z f.sfits)

together_by : {X : Type 0} (s t : List X) (m : ℕ) (b : Bool) → nat_le (length t) (m - length s) ≡ b → length s ≤ m → nat_le (length (s ++ t)) m ≡ b
together_by s t m true e h = le-leb (length (s ++ t)) m (omega (arith, length-append s t, leb-true (length t) (m - length s) e, h))
together_by s t m false e h = lt-leb (length (s ++ t)) m (omega (arith, length-append s t, leb-false (length t) (m - length s) e, h))

pub together : {X : Type 0} (s t : List X) (m : ℕ) → length s ≤ m → nat_le (length (s ++ t)) m ≡ nat_le (length t) (m - length s)
together s t m h = together_by s t m (nat_le (length t) (m - length s)) refl h

pub first_alone : {X : Type 0} (s t : List X) (m : ℕ) → m < length s → nat_le (length (s ++ t)) m ≡ false
first_alone s t m h = lt-leb (length (s ++ t)) m (omega (arith, length-append s t, h))
