-- The file of a script, and how it stops the work: with which reply.
use Rattle.std.specs.Prelude.{◌≡◌, ◌<◌, ◌≤◌, ℕ, List, length, None}
use Rattle.std.specs.FinMap.{get}
use Rattle.vault_io.specs.Files.{Files}
use Rattle.ql_lex.specs.declared.limits.TheConstants.{MAX_SCRIPT}
use Rattle.qv_syntax.specs.declared.script.Script.{Script}
use Rattle.script_files.specs.declared.error.ScriptError.{ScriptError}
use Rattle.script_files.specs.ScriptErrors.{is_limit}
use Rattle.script_files.specs.Scripts.{SpellsScript, IsScriptError, IsTold}
use Rattle.script_files.specs.ScriptTexts.{script_text}
use Rattle.qvtr_engine.specs.FileStops.{HasFile}
use Rattle.qvtr_engine.specs.Reply.{Reply, unread, faulty, too_long}

-- the file at a path is no longer than a script may be
pub record HasShortScript (files : Files) (path bytes : List ℕ) : Type 0 where
  pub file : HasFile files path bytes
  pub short : length bytes ≤ MAX_SCRIPT

-- a script has a text
abbrev pub IsSpelled : Script → Type 0
IsSpelled script = (bytes : List ℕ) × SpellsScript bytes script

-- it is this script
abbrev pub IsScriptAt : Files → List ℕ → Script → Type 0
IsScriptAt files path script = (bytes : List ℕ) × HasShortScript files path bytes × SpellsScript bytes script

-- an error is told of its bytes
pub data IsMisspelled (path bytes : List ℕ) : Reply → Type 0 where
  misspelled : (error : ScriptError) → IsTold error → IsScriptError bytes error
      → IsMisspelled path bytes (faulty (is_limit error) (script_text path error))

-- it isn't there, or is too long, or an error is told of it
pub data ScriptStops (files : Files) (path : List ℕ) : Reply → Type 0 where
  absent : get files path ≡ None → ScriptStops files path (unread path)
  lengthy : (bytes : List ℕ) → HasFile files path bytes → MAX_SCRIPT < length bytes → ScriptStops files path (too_long path)
  refused : (bytes : List ℕ) → HasShortScript files path bytes → (reply : Reply) → IsMisspelled path bytes reply → ScriptStops files path reply
