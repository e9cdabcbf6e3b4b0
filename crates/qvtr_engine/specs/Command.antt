-- The words of the command line: what they ask for.
use Rattle.std.specs.Prelude.{ℕ, List, [], ◌∷◌, Option, Some, None}
use Rattle.std.specs.Option.{option_map}
use Rattle.qvtr_engine.specs.declared.command_name.CommandName.{CommandName}
use Rattle.qvtr_engine.specs.declared.command_name.CommandName.TheVariants.{Execute, Convert, Generate}
use Rattle.qvtr_engine.specs.declared.mode.Mode.{Mode}
use Rattle.qvtr_engine.specs.declared.mode.Mode.TheVariants.{Check, Enforce, Trace}
use Rattle.qvtr_engine.specs.CheckWords.{CheckWords, check_paths}
use Rattle.qvtr_engine.specs.ConvertWords.{ConvertWords, IsConvert, convert_paths, convert_of}
use Rattle.qvtr_engine.specs.CommandNames.{command_named}
use Rattle.qvtr_engine.specs.declared.gen_words.GenRequest.{GenRequest}
use Rattle.qvtr_engine.specs.GenWords.{IsGeneration, IsInRange, gen_of}
use Rattle.qvtr_engine.specs.Modes.{mode_name}
use Rattle.qvtr_engine.specs.Reading.{◌>>=◌}
use Rattle.qvtr_engine.specs.RequestWords.{IsRequest, request_of}
use Rattle.qvtr_engine.specs.Target.{target_path}

-- a script is executed over models; a model is converted; the example is run
pub data Command : Type 0 where
  executes : Mode → CheckWords → Command
  converts : ConvertWords → Command
  generates : GenRequest → Command

abbrev pub IsCommand : List (List ℕ) → Command → Type 0
IsCommand words (executes mode w) = IsRequest (mode_name mode) words w
IsCommand words (converts c) = IsConvert words c
IsCommand words (generates g) = IsGeneration words g

-- the words of `check`, `enforce` and `trace`
abbrev pub IsExecution : Mode → List (List ℕ) → CheckWords → Type 0
IsExecution mode words w = IsRequest (mode_name mode) words w

-- no command stands in the words
abbrev pub IsUsage : List (List ℕ) → Type 0
IsUsage words = (command : Command) → IsCommand words command → ⊥

-- the paths of the words
abbrev pub paths_of : Command → List (List ℕ)
paths_of (executes mode w) = check_paths w
paths_of (converts c) = convert_paths c
paths_of (generates g) = []

-- the path of the file that may be put
abbrev pub output_of : Command → Option (List ℕ)
output_of (executes Check w) = None
output_of (executes Enforce w) = Some (target_path w)
output_of (executes Trace w) = None
output_of (converts c) = Some c.output
output_of (generates g) = None

-- what the numbers of a command are known to be
abbrev pub IsInBounds : Command → Type 0
IsInBounds (executes mode w) = Unit {0}
IsInBounds (converts c) = Unit {0}
IsInBounds (generates g) = IsInRange g

-- They are read by the name of the command.

abbrev pub command_in : CommandName → List (List ℕ) → Option Command
command_in (Execute mode) further = option_map (executes mode) (request_of further)
command_in Convert further = option_map converts (convert_of further)
command_in Generate further = option_map generates (gen_of further)

abbrev pub command_of : List (List ℕ) → Option Command
command_of [] = None
command_of (word ∷ further) = command_named word >>= λ name. command_in name further
