-- The characters of an ASCII text are its bytes.
use Rattle.std.proofs.Common.{◌≡◌, ℕ, zero, suc, ◌&&◌, Bool, true, false, nat_lt, List, [], ◌∷◌, IsTrue, arith, refl, sym, chars, true≢false}
use Rattle.std.specs.Str.{IsAscii}
use Rattle.std.specs.Str as texts
use Rattle.std.proofs.lemmas.Bool.Decides.{nat_tests}
use Rattle.std.proofs.lemmas.Str.{chars-IsAscii}
use Rattle.model_files.specs.Ascii.{is_ascii}

first_passes : (a b : Bool) → a && b ≡ true → a ≡ true
first_passes true b e = refl
first_passes false b e = e

rest_passes : (a b : Bool) → a && b ≡ true → b ≡ true
rest_passes true b e = e
rest_passes false b e = absurd (true≢false (sym e))

below : (text : List ℕ) → is_ascii text ≡ true → IsAscii text
below [] e i = omega arith
below (b ∷ bs) e zero = let h : nat_lt b 128 ≡ true = first_passes (nat_lt b 128) (is_ascii bs) e in grind (arith, nat_tests)
below (b ∷ bs) e (suc i) = below bs (rest_passes (nat_lt b 128) (is_ascii bs) e) i

pub ascii_characters : (text : List ℕ) → IsTrue (is_ascii text) → chars text ≡ text
ascii_characters text e = chars-IsAscii text (below text e)

pub no_characters : texts.chars [] ≡ []
unfolding texts.chars
no_characters = refl
