-- Texts with a comma between, from a place of them on.
use Rattle.std.specs.Prelude.{ℕ, zero, suc, List, [], ◌∷◌, ◌++◌, codes}
use Rattle.std.specs.List.{flat_map}
use Rattle.entry_texts.specs.EntryTexts.{listed}

-- what stands before the text at a place
abbrev pub comma : ℕ → List ℕ
comma zero = []
comma (suc n) = codes ", "

-- the texts from this place on, each behind what stands before it
abbrev pub listed_from : ℕ → List (List ℕ) → List ℕ
listed_from zero texts = listed texts
listed_from (suc n) texts = flat_map (λ text. codes ", " ++ text) texts
