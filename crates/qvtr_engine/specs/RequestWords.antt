-- The words of a command over a script and models: its name, SCRIPT, TARGET, and `NAME=PATH` for one name or more. The first step: words of
-- another form are no command.
use Rattle.std.specs.Prelude.{◌≡◌, ◌≢◌, ℕ, Bool, true, ◌&&◌, ◌==◌, not, nat_lt, List, [], ◌∷◌, length, map, drop, Option, None, if◌then◌else◌}
use Rattle.std.specs.List.{list_all}
use Rattle.command_words.specs.Arguments.{AreArguments, arguments_of}
use Rattle.qvtr_engine.specs.CheckWords.{Bound, CheckWords, bound_word, is_bound, check_paths}
use Rattle.qvtr_engine.specs.Names.{are_distinct}
use Rattle.qvtr_engine.specs.Paths.{is_filled, are_all_apart}
use Rattle.qvtr_engine.specs.Reading.{◌>>=◌, when_true, nth, parts}

-- the further words as arguments
abbrev pub check_arguments : CheckWords → List (List ℕ)
check_arguments w = w.script ∷ w.target ∷ map bound_word w.files

abbrev pub file_names : CheckWords → List (List ℕ)
file_names w = map (λ b. b.name) w.files

-- The words are the command's name and `SCRIPT TARGET NAME=PATH..`: no name stands twice, and the paths are apart and not empty.
pub record IsRequest (command : List ℕ) (words : List (List ℕ)) (w : CheckWords) : Type 0 where
  pub further : List (List ℕ)
  pub named : words ≡ command ∷ further
  pub arguments : AreArguments further (check_arguments w)
  pub some : w.files ≢ []
  pub bound : list_all is_bound w.files ≡ true
  pub names : are_distinct (file_names w) ≡ true
  pub filled : list_all is_filled (check_paths w) ≡ true
  pub apart : are_all_apart (check_paths w) ≡ true

-- They are read from the front.

-- a name and a path that aren't empty
abbrev pub has_parts : Bound → Bool
has_parts b = not (length b.name == 0) && not (length b.path == 0)

abbrev pub is_good : CheckWords → Bool
is_good w = list_all has_parts w.files && are_distinct (file_names w) && is_filled w.script && are_all_apart (check_paths w)

-- the words behind the first two bind names to paths
abbrev pub files_in : List (List ℕ) → List Bound
files_in arguments = map parts (drop 2 arguments)

abbrev pub check_in : List (List ℕ) → CheckWords
check_in arguments = record { script = nth arguments 0; target = nth arguments 1; files = files_in arguments }

unfoldable pub check_from : List (List ℕ) → Option CheckWords
check_from arguments = if nat_lt (length arguments) 3 then None else when_true (is_good (check_in arguments)) (check_in arguments)

-- the words behind the command's name
unfoldable pub request_of : List (List ℕ) → Option CheckWords
request_of further = arguments_of further >>= check_from
