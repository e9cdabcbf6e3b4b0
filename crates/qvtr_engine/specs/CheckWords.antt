-- The words of `check`.
use Rattle.std.specs.Prelude.{ℕ, Bool, ◌&&◌, ◌==◌, not, List, ◌∷◌, ◌++◌, length, map}
use Rattle.std.specs.List.{list_any}

-- a word `NAME=PATH`
pub record Bound : Type 0 where
  pub name : List ℕ
  pub path : List ℕ

pub record CheckWords : Type 0 where
  pub script : List ℕ
  pub target : List ℕ
  pub files : List Bound

abbrev pub equals_sign : ℕ
equals_sign = 61

abbrev pub is_equals_sign : ℕ → Bool
is_equals_sign c = c == equals_sign

-- the word that binds a name to a path
abbrev pub bound_word : Bound → List ℕ
bound_word b = b.name ++ equals_sign ∷ b.path

-- a name and a path that aren't empty, the name without `=`
abbrev pub is_bound : Bound → Bool
is_bound b = not (length b.name == 0) && not (list_any is_equals_sign b.name) && not (length b.path == 0)

-- the paths of the words
abbrev pub check_paths : CheckWords → List (List ℕ)
check_paths w = w.script ∷ map (λ b. b.path) w.files
