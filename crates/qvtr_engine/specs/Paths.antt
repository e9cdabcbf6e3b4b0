-- Paths of the words, and which of them may stand beside each other.
use Rattle.std.specs.Prelude.{ℕ, Bool, true, ◌&&◌, ◌==◌, not, List, [], ◌∷◌, ◌++◌, codes, length}
use Rattle.std.specs.List.{list_all}
use Rattle.mof_metamodel.specs.Metamodels.{same_name}

-- a path is the other one followed by `.new`
abbrev pub is_new_of : List ℕ → List ℕ → Bool
is_new_of p q = same_name p (q ++ codes ".new")

-- two paths that name no common file: neither is the other, or the other followed by `.new`
abbrev pub are_apart : List ℕ → List ℕ → Bool
are_apart p q = not (same_name p q) && not (is_new_of p q) && not (is_new_of q p)

abbrev pub are_all_apart : List (List ℕ) → Bool
are_all_apart [] = true
are_all_apart (p ∷ ps) = list_all (are_apart p) ps && are_all_apart ps

abbrev pub is_filled : List ℕ → Bool
is_filled path = not (length path == 0)
