-- What is printed of a fault of a file: one line with the path of the file, in words with one space between. A word that is empty leaves
-- its space.
use Rattle.std.specs.Prelude.{ℕ, List, [], ◌∷◌, ◌++◌, codes, encode_utf8_all}
use Rattle.std.specs.List.{flat_map}

abbrev pub Words : Type 0
Words = List (List ℕ)

-- words, each behind a space
abbrev pub behind : Words → List ℕ
behind words = flat_map (λ word. 32 ∷ word) words

-- words with one space between, and a line feed behind them
abbrev pub line : Words → List ℕ
line [] = 10 ∷ []
line (first ∷ words) = first ++ (behind words ++ 10 ∷ [])

-- the file at the path is refused, for a fault of this kind
abbrev pub refused : List ℕ → List ℕ → Words → Words
refused path kind details = codes "refused" ∷ path ∷ kind ∷ details

-- a limit is passed in the file at the path
abbrev pub limit : List ℕ → List ℕ → Words → Words
limit name path details = codes "limit" ∷ name ∷ path ∷ details

-- memory could not be had
abbrev pub starved : Words
starved = codes "no" ∷ codes "memory" ∷ []

-- characters as bytes
abbrev pub shown : List ℕ → List ℕ
shown text = encode_utf8_all text
