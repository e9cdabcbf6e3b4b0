-- Reading values one behind the other.
use Rattle.std.specs.Prelude.{ℕ, zero, suc, ◌+◌, ◌-◌, Bool, if◌then◌else◌, List, [], ◌∷◌, ◌++◌, length, Ok, codes}
use Rattle.ql_lex.specs.Lexed.{Lexeme}
use Rattle.ql_lex.specs.Lexemes.{is_sign, stands}
use Rattle.ocl_parser.specs.Readings.{Read, and_then}

-- One more value as long as the test holds, behind those before. Each takes a token at least, so that as many as there are
-- tokens left are enough.
unfoldable pub each_read : {A : Type 0} → (ℕ → Bool) → (ℕ → Read A) → ℕ → List A → ℕ → Read (List A)
each_read goes_on read zero before at = Ok (before, at)
each_read goes_on read (suc more) before at =
    if goes_on at then and_then (read at) (λ x. each_read goes_on read more (before ++ x.0 ∷ []) x.1) else Ok (before, at)

-- how many tokens there are from this number on
abbrev pub left : List Lexeme → ℕ → ℕ
left ts at = length ts - at

abbrev pub comma_at : List Lexeme → ℕ → Bool
comma_at ts at = stands (is_sign (codes ",")) ts at

-- a value behind a sign
abbrev pub behind_sign : {A : Type 0} → (ℕ → Read A) → ℕ → Read A
behind_sign read at = read (at + 1)

-- the values behind others, each with a comma before it
abbrev pub more_read : {A : Type 0} → List Lexeme → (ℕ → Read A) → List A → ℕ → Read (List A)
more_read ts read before at = each_read (comma_at ts) (behind_sign read) (left ts at) before at

-- values with commas between them, at least one
abbrev pub some_read : {A : Type 0} → List Lexeme → (ℕ → Read A) → ℕ → Read (List A)
some_read ts read at = and_then (read at) (λ x. more_read ts read (x.0 ∷ []) x.1)

-- the same, or none before this sign
abbrev pub any_read : {A : Type 0} → List Lexeme → List ℕ → (ℕ → Read A) → ℕ → Read (List A)
any_read ts close read at = if stands (is_sign close) ts at then Ok ([], at) else some_read ts read at
