-- The words of an attribute read character by character (XML Schema 1.0 part 2, 3.3.10: white space separates the items of a list).
use Rattle.std.specs.Prelude.{ℕ, ◌==◌, List, [], ◌∷◌, ◌++◌, length, if◌then◌else◌}
use Rattle.mof_metamodel.specs.Characters.{is_blank}

-- the words that are done, and the one that goes on
abbrev pub Words : Type 0
Words = List (List ℕ) × List ℕ

abbrev pub ended : Words → Words
ended w = if length w.1 == 0 then w else (w.0 ++ w.1 ∷ [], [])

abbrev pub words_on : Words → ℕ → Words
words_on w c = if is_blank c then ended w else (w.0, w.1 ++ c ∷ [])
