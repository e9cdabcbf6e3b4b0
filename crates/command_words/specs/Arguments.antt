-- The arguments in the words behind a command's name: those before a first `--` and all behind it. Before it none stands for an option.
use Rattle.std.specs.Prelude.{◌≡◌, ℕ, Bool, true, ◌==◌, not, List, [], ◌∷◌, ◌++◌, codes, Option, Some, None, option_map, if◌then◌else◌}
use Rattle.std.specs.List.{list_all}
use Rattle.std.specs.Str.{bytes_eq}

-- the word behind which each word is an argument
abbrev pub divider : List ℕ
divider = codes "--"

-- a word that begins with `-` and has more than that sign stands for an option, and each other word is an argument
abbrev pub is_argument : List ℕ → Bool
is_argument [] = true
is_argument (c ∷ []) = true
is_argument (c ∷ d ∷ cs) = not (c == 45)

pub data AreArguments (words arguments : List (List ℕ)) : Type 0 where
  undivided : arguments ≡ words → list_all is_argument words ≡ true → AreArguments words arguments
  divided : (before behind : List (List ℕ)) → words ≡ before ++ divider ∷ behind → list_all is_argument before ≡ true
      → arguments ≡ before ++ behind → AreArguments words arguments

-- They are read from the front.

abbrev pub arguments_of : List (List ℕ) → Option (List (List ℕ))
arguments_of [] = Some []
arguments_of (word ∷ words) = if bytes_eq word divider then Some words
    else if is_argument word then option_map (λ more. word ∷ more) (arguments_of words)
    else None
