-- A line is what is put together of it.
use Rattle.std.proofs.Common.{◌≡◌, ℕ, List, [], ◌∷◌, ◌++◌, sym}
use Rattle.std.proofs.lemmas.List.{append_assoc}
use Rattle.fault_lines.specs.Lines.{Words, behind, line}

-- the first word, the others each behind a space, and then the line feed
pub line_is : (first : List ℕ) (words : Words) → line (first ∷ words) ≡ (first ++ behind words) ++ 10 ∷ []
line_is first words = sym (append_assoc first (behind words) (10 ∷ []))

-- a space and a word behind a text
pub joined : (text word : List ℕ) (space : ℕ) → (text ++ space ∷ []) ++ word ≡ text ++ space ∷ word
joined text word space = append_assoc text (space ∷ []) word
