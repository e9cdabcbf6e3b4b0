-- What `convert` is answered over the files of a vault: the first of its steps that a file stops, or else the text that is put.
use Rattle.std.specs.Prelude.{◌<◌, ◌≤◌, ℕ, List, length}
use Rattle.vault_io.specs.Files.{Files}
use Rattle.mof_metamodel.specs.declared.desc.MetaDesc.{MetaDesc}
use Rattle.qvtr_engine.specs.declared.limits.TheConstants.{MAX_FILE}
use Rattle.object_tables.specs.Models.{ModelData}
use Rattle.model_assembly.specs.declared.fault.Externs.TheVariants as externs
use Rattle.model_files.specs.Emof.{emof}
use Rattle.model_files.specs.Files.{FileSpells, IsFileError, MetaSpells, IsMetaFileError}
pub use Rattle.enforce_steps.specs.StepTexts.{text_in}
use Rattle.qvtr_engine.specs.ConvertWords.{ConvertWords}
use Rattle.qvtr_engine.specs.FileStops.{HasShortFile, Stops}
use Rattle.qvtr_engine.specs.Reply.{Reply, too_long, converted}

-- the file at a path is this metamodel
abbrev pub IsMetamodelAt : Files → List ℕ → MetaDesc → Type 0
IsMetamodelAt files path meta = (bytes : List ℕ) × HasShortFile files path bytes × MetaSpells bytes meta

-- the file at a path is this model
abbrev pub IsModelAt : Files → List ℕ → MetaDesc → ModelData → Type 0
IsModelAt files path meta m = (bytes : List ℕ) × HasShortFile files path bytes × FileSpells meta externs.None bytes m

-- the model that the words name, by the metamodel that they name
pub record IsConverted (files : Files) (c : ConvertWords) (m : ModelData) : Type 0 where
  pub meta : MetaDesc
  pub metamodel : IsMetamodelAt files c.metamodel meta
  pub model : IsModelAt files c.model meta m

pub data ConvertAnswer (files : Files) (c : ConvertWords) : Reply → Type 0 where
  metamodel_stops : (reply : Reply) → Stops files c.metamodel emof IsMetaFileError reply → ConvertAnswer files c reply
  model_stops : (meta : MetaDesc) → IsMetamodelAt files c.metamodel meta
      → (reply : Reply) → Stops files c.model meta (IsFileError meta externs.None) reply → ConvertAnswer files c reply
  output_long : (m : ModelData) → IsConverted files c m → MAX_FILE < length (text_in c.form m) → ConvertAnswer files c (too_long c.output)
  put : (m : ModelData) → IsConverted files c m → length (text_in c.form m) ≤ MAX_FILE → ConvertAnswer files c (converted c.output (text_in c.form m))
