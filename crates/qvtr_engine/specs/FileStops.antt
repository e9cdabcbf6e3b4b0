-- Files that are read, and how one stops the work: with which reply.
use Rattle.std.specs.Prelude.{◌≡◌, ◌<◌, ◌≤◌, ℕ, List, length, Some, None}
use Rattle.std.specs.FinMap.{get}
use Rattle.vault_io.specs.Files.{Files}
use Rattle.mof_metamodel.specs.declared.desc.MetaDesc.{MetaDesc}
use Rattle.qvtr_engine.specs.declared.limits.TheConstants.{MAX_FILE}
use Rattle.model_files.specs.declared.fault.FileError.{FileError}
use Rattle.model_files.specs.FaultTexts.{is_limit, error_text}
use Rattle.model_files.specs.Files.{IsTold}
use Rattle.qvtr_engine.specs.Reply.{Reply, unread, faulty, too_long}

-- the file at a path has these bytes
abbrev pub HasFile : Files → List ℕ → List ℕ → Type 0
HasFile files path bytes = get files path ≡ Some bytes

-- and is no longer than a file may be
pub record HasShortFile (files : Files) (path bytes : List ℕ) : Type 0 where
  pub file : HasFile files path bytes
  pub short : length bytes ≤ MAX_FILE

-- the file isn't there, or is too long
pub data Unloaded (files : Files) (path : List ℕ) : Reply → Type 0 where
  missing : get files path ≡ None → Unloaded files path (unread path)
  long : (bytes : List ℕ) → HasFile files path bytes → MAX_FILE < length bytes → Unloaded files path (too_long path)

-- or an error is told of its bytes, in words by this metamodel
pub data Stops (files : Files) (path : List ℕ) (meta : MetaDesc) (IsError : List ℕ → FileError → Type 0) : Reply → Type 0 where
  unloaded : (reply : Reply) → Unloaded files path reply → Stops files path meta IsError reply
  misread : (bytes : List ℕ) → HasShortFile files path bytes → (error : FileError) → IsTold error → IsError bytes error
      → Stops files path meta IsError (faulty (is_limit error) (error_text meta path error))
