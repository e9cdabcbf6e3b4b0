-- Names of variables as they are printed, one character after the other.
use Rattle.std.specs.Prelude.{ℕ, zero, suc, List, [], ◌∷◌, ◌++◌}

-- what is printed, with one more character of the name: U+0000 at its begin as `_`
abbrev pub printed_after : List ℕ → ℕ → List ℕ
printed_after [] zero = 95 ∷ []
printed_after [] (suc c) = suc c ∷ []
printed_after (x ∷ text) c = x ∷ text ++ c ∷ []
