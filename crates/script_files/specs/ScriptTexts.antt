-- What is printed of a fault of a script: one line with the path of its file.
use Rattle.std.specs.Prelude.{ℕ, List, [], ◌∷◌, codes, if◌then◌else◌}
use Rattle.std.specs.Fmt.{decimal}
use Rattle.fault_lines.specs.Lines.{Words, line, refused, limit, starved, shown}
use Rattle.ocl_environments.specs.declared.fault.TypeFault.{TypeFault}
use Rattle.ocl_environments.specs.declared.fault.TypeFault.TheVariants as faults
use Rattle.ocl_environments.specs.FaultWords.{fault_word}
use Rattle.ql_lex.specs.declared.fault.LexKind.{LexKind}
use Rattle.ql_lex.specs.Words.{kind_word}
use Rattle.script_files.specs.declared.error.ScriptError.{ScriptError}
use Rattle.script_files.specs.declared.error.ScriptError.TheVariants as errors
use Rattle.script_files.specs.ScriptErrors.{is_length}

-- Texts

-- the kind and the place of a fault of tokens; of a text that is too long the limit alone
abbrev pub token_words : List ℕ → LexKind → List ℕ → Words
token_words path kind place =
    if is_length kind then limit (codes "bytes") path [] else refused path (kind_word kind) (place ∷ [])

abbrev pub script_words : List ℕ → ScriptError → Words
script_words path (errors.Tokens fault) = token_words path fault.kind (decimal fault.at)
script_words path (errors.Parse at) = refused path (codes "Parse") (decimal at ∷ [])
script_words path (errors.Limit at) = limit (codes "nesting") path (decimal at ∷ [])
script_words path errors.NoMemory = starved

abbrev pub script_text : List ℕ → ScriptError → List ℕ
script_text path e = line (script_words path e)

-- Types

-- the name that a fault is about; of a wrong type that which is wanted and that which is found
abbrev pub type_details : TypeFault → Words
type_details (faults.UnknownName name) = shown name ∷ []
type_details (faults.WrongType wanted found) = shown wanted ∷ shown found ∷ []
type_details (faults.WrongCount name) = shown name ∷ []
type_details (faults.ModelMix name) = shown name ∷ []
type_details (faults.QueryCycle name) = shown name ∷ []
type_details (faults.DuplicateName name) = shown name ∷ []
type_details (faults.Unbound name) = shown name ∷ []
type_details (faults.WhenCycle name) = shown name ∷ []
type_details (faults.CallShape name) = shown name ∷ []
type_details (faults.KeyShape name) = shown name ∷ []
type_details (faults.UnknownModel name) = shown name ∷ []

abbrev pub type_words : List ℕ → TypeFault → Words
type_words path fault = refused path (fault_word fault) (type_details fault)

abbrev pub type_text : List ℕ → TypeFault → List ℕ
type_text path fault = line (type_words path fault)
