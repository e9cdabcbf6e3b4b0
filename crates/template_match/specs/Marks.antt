-- Marks of numbers (this engine's own): a list of Booleans, the mark of each number at its place.
use Rattle.std.specs.Prelude.{ℕ, Bool, true, false, List, fold, slice_set, slice_index_or}

-- a number past the end isn't marked
abbrev pub is_marked : List Bool → ℕ → Bool
is_marked marks k = slice_index_or marks k false

-- the marks with those of these numbers set
abbrev pub with_marks : List Bool → List ℕ → List Bool
with_marks marks numbers = fold (λ (ms : List Bool) k. slice_set ms k true) marks numbers
