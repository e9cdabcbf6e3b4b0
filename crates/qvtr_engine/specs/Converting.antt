-- The steps of a conversion.
use Rattle.std.specs.Prelude.{◌≡◌, ◌<◌, ◌≤◌, ℕ, List, length, Option, IfSome}
use Rattle.vault_io.specs.Files.{Files}
use Rattle.mof_metamodel.specs.declared.desc.MetaDesc.{MetaDesc}
use Rattle.qvtr_engine.specs.declared.limits.TheConstants.{MAX_FILE}
use Rattle.object_tables.specs.Models.{ModelData}
use Rattle.model_assembly.specs.declared.fault.Externs.TheVariants as externs
use Rattle.model_files.specs.declared.file_form.Form.{Form}
use Rattle.model_files.specs.Files.{FileSpells}
use Rattle.qvtr_engine.specs.declared.converting.Conversion.{Conversion}
use Rattle.qvtr_engine.specs.declared.outcome.Stop.{Stop}
use Rattle.qvtr_engine.specs.declared.outcome.Stop.TheVariants as stop
use Rattle.qvtr_engine.specs.ConvertAnswer.{ConvertAnswer, IsModelAt, text_in}
use Rattle.qvtr_engine.specs.ConvertWords.{ConvertWords}
use Rattle.qvtr_engine.specs.Reply.{converted, fault_text}

-- the text is that of the model that the bytes are
abbrev pub IsWritten : MetaDesc → List ℕ → Form → List ℕ → Type 0
IsWritten meta bytes form text = (m : ModelData) × FileSpells meta externs.None bytes m × (text ≡ text_in form m)

-- and of the model that the file at the path is
abbrev pub IsTextAt : Files → List ℕ → MetaDesc → Form → List ℕ → Type 0
IsTextAt files path meta form text = (m : ModelData) × IsModelAt files path meta m × (text ≡ text_in form m)

-- the text is to be put at the path
pub record IsShort (path text : List ℕ) (c : Conversion) : Type 0 where
  pub text_is : c.text ≡ text
  pub failure_is : c.failure ≡ fault_text path
  pub short : length text ≤ MAX_FILE

-- it is too long to be put, or memory could not be had
abbrev pub IsTooLong : Stop → List ℕ → List ℕ → Type 0
IsTooLong (stop.Fault at) path text = ⊥
IsTooLong (stop.TooLong at) path text = (at.now ≡ path) × (MAX_FILE < length text)
IsTooLong (stop.Faulty limit line) path text = ⊥
IsTooLong (stop.Refused cause told) path text = ⊥
IsTooLong stop.NoMemory path text = Unit {0}

-- what is put is the answer, where the files are told
pub record IsDuePut (told : Option Files) (c : ConvertWords) (text : List ℕ) : Type 0 where
  pub answer : IfSome told (λ files. ConvertAnswer files c (converted c.output text))
