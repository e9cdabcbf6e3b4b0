-- The reading of words, as functions on lists. The laws that tie it to what is spelled stand in proofs/.
use Rattle.std.specs.Prelude.{ℕ, suc, zero, Bool, true, false, not, ◌&&◌, ◌==◌, List, [], ◌∷◌, length, Option, Some, None, if◌then◌else◌}
use Rattle.qvtr_engine.specs.CheckWords.{Bound, is_equals_sign}

infixl 10 ◌>>=◌
abbrev pub ◌>>=◌ : {A B : Type 0} → Option A → (A → Option B) → Option B
None >>= f = None
(Some x) >>= f = f x

-- the value, if the test holds
abbrev pub when_true : {A : Type 0} → Bool → A → Option A
when_true true x = Some x
when_true false x = None

-- the bytes before the first `=`, and those behind it
abbrev pub name_part : List ℕ → List ℕ
name_part [] = []
name_part (c ∷ cs) = if is_equals_sign c then [] else c ∷ name_part cs

abbrev pub path_part : List ℕ → List ℕ
path_part [] = []
path_part (c ∷ cs) = if is_equals_sign c then cs else path_part cs

abbrev pub parts : List ℕ → Bound
parts word = record { name = name_part word; path = path_part word }

unfoldable pub bound_of : List ℕ → Option Bound
bound_of word = when_true (not (length (name_part word) == 0) && not (length (path_part word) == 0)) (parts word)

-- the item at a place
abbrev pub nth : List (List ℕ) → ℕ → List ℕ
nth [] k = []
nth (x ∷ xs) zero = x
nth (x ∷ xs) (suc k) = nth xs k
