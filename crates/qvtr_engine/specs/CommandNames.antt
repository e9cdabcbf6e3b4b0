-- The names of the commands, and the first word of the command line.
use Rattle.std.specs.Prelude.{◌≡◌, ℕ, List, ◌∷◌, codes, Option, Some, option_map, if◌then◌else◌}
use Rattle.mof_metamodel.specs.Metamodels.{same_name}
use Rattle.qvtr_engine.specs.declared.command_name.CommandName.{CommandName}
use Rattle.qvtr_engine.specs.declared.command_name.CommandName.TheVariants.{Execute, Convert, Generate}
use Rattle.qvtr_engine.specs.Modes.{mode_name, mode_named}

abbrev pub word_of : CommandName → List ℕ
word_of (Execute mode) = mode_name mode
word_of Convert = codes "convert"
word_of Generate = codes "gen"

-- the first word is a command's name
pub record NamesCommand (words : List (List ℕ)) : Type 0 where
  pub name : CommandName
  pub further : List (List ℕ)
  pub named : words ≡ word_of name ∷ further

-- the command that a word names
abbrev pub command_named : List ℕ → Option CommandName
command_named word =
    if same_name word (codes "convert") then Some Convert else if same_name word (codes "gen") then Some Generate else option_map Execute (mode_named word)
