-- The characters of an ASCII text are its bytes.
use Rattle.std.proofs.Common.{◌≡◌, ℕ, zero, suc, true, nat_lt, List, [], ◌∷◌, IsTrue, arith, chars}
use Rattle.std.specs.Str.{IsAscii}
use Rattle.std.proofs.lemmas.Bool.Decides.{nat_tests}
use Rattle.std.proofs.lemmas.Str.{chars-IsAscii}
use Rattle.mof_metamodel.proofs.Facts.{first_true, second_true}
use Rattle.example_models.specs.Descriptions.{is_ascii}

-- each byte is one of ASCII
pub below : (text : List ℕ) → is_ascii text ≡ true → IsAscii text
below [] e i = omega arith
below (b ∷ bs) e zero = let h : nat_lt b 128 ≡ true = first_true (nat_lt b 128) (is_ascii bs) e in grind (arith, nat_tests)
below (b ∷ bs) e (suc i) = below bs (second_true (nat_lt b 128) (is_ascii bs) e) i

pub ascii_characters : (text : List ℕ) → IsTrue (is_ascii text) → chars text ≡ text
ascii_characters text e = chars-IsAscii text (below text e)
