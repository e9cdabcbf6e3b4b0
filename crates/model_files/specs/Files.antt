-- What a file is by a metamodel, in the form that it has (XMI 2.5.1, clauses 7 and 9; RFC 8259): the model that it spells, or the fault
-- that is told of it. A file of a metamodel is a model of EMOF that describes one (MOF 2.5.1, 12.4).
use Rattle.std.specs.Prelude.{◌≡◌, ◌≢◌, ℕ, List, Some}
use Rattle.serde_json.specs.Data.{Data}
use Rattle.mof_metamodel.specs.declared.desc.MetaDesc.{MetaDesc}
use Rattle.object_tables.specs.Models.{ModelData}
use Rattle.xmi_text.specs.Faults as markup
use Rattle.model_assembly.specs.declared.fault.Externs.{Externs}
use Rattle.model_assembly.specs.declared.fault.Externs.TheVariants as externs
use Rattle.xmi_profile.specs.Reads.{Spells, IsRefused}
use Rattle.model_files.specs.declared.fault.FileError.{FileError}
use Rattle.model_files.specs.declared.fault.FileError.TheVariants as errors
use Rattle.model_files.specs.declared.file_form.Form.{Form}
use Rattle.model_files.specs.declared.file_form.Form.TheVariants.{Xmi, Json}
use Rattle.model_files.specs.Described.{Describes, IsWhy}
use Rattle.model_files.specs.Emof.{emof}
use Rattle.model_files.specs.FileForm.{form_of}
use Rattle.model_files.specs.JsonContent.{SpellsModel}
use Rattle.model_files.specs.JsonFaults.{IsJsonFault}
use Rattle.model_files.specs.JsonText.{value_in}

-- Models

-- the file, read in this form, is the model; references to something outside stand only in XMI
abbrev pub SpellsIn : MetaDesc → Externs → List ℕ → Form → ModelData → Type 0
SpellsIn meta outside bytes Xmi m = Spells meta outside bytes m
SpellsIn meta outside bytes Json m = (d : Data) × (value_in bytes ≡ Some d) × SpellsModel meta d m

-- the error of a file that is read in this form; that memory ran out says nothing
abbrev pub IsErrorIn : MetaDesc → Externs → List ℕ → Form → FileError → Type 0
IsErrorIn meta outside bytes Xmi (errors.Text fault) = markup.IsFirstFault bytes fault
IsErrorIn meta outside bytes Xmi (errors.Json fault) = ⊥
IsErrorIn meta outside bytes Xmi (errors.Content fault) = IsRefused meta outside bytes fault
IsErrorIn meta outside bytes Json (errors.Text fault) = ⊥
IsErrorIn meta outside bytes Json (errors.Json fault) = IsJsonFault meta bytes fault
IsErrorIn meta outside bytes Json (errors.Content fault) = ⊥
IsErrorIn meta outside bytes form (errors.Meta fault) = ⊥
IsErrorIn meta outside bytes form (errors.NoPackage n) = ⊥
IsErrorIn meta outside bytes form errors.NoMemory = Unit {0}

-- want of memory isn't told of a file
abbrev pub IsTold : FileError → Type 0
IsTold e = e ≢ errors.NoMemory

-- the file, read in the form that it has, is the model
abbrev pub FileSpells : MetaDesc → Externs → List ℕ → ModelData → Type 0
FileSpells meta outside bytes m = SpellsIn meta outside bytes (form_of bytes) m

-- the error is the one that is told of the file
abbrev pub IsFileError : MetaDesc → Externs → List ℕ → FileError → Type 0
IsFileError meta outside bytes e = IsErrorIn meta outside bytes (form_of bytes) e

-- Metamodels

-- the file is a model of EMOF, in which references may name primitive types outside
abbrev pub EmofSpells : List ℕ → ModelData → Type 0
EmofSpells bytes m = FileSpells emof externs.Primitives bytes m

-- and it describes the metamodel
pub record MetaSpells (bytes : List ℕ) (desc : MetaDesc) : Type 0 where
  pub model : ModelData
  pub spelled : EmofSpells bytes model
  pub describes : Describes model desc

-- the model that the file is describes no metamodel
pub record IsUndescribed (bytes : List ℕ) (e : FileError) : Type 0 where
  pub model : ModelData
  pub spelled : EmofSpells bytes model
  pub why : IsWhy model e

-- the error is the one that is told of a file of a metamodel: that of a model of EMOF comes first
abbrev pub IsMetaFileError : List ℕ → FileError → Type 0
IsMetaFileError bytes (errors.Text fault) = IsFileError emof externs.Primitives bytes (errors.Text fault)
IsMetaFileError bytes (errors.Json fault) = IsFileError emof externs.Primitives bytes (errors.Json fault)
IsMetaFileError bytes (errors.Content fault) = IsFileError emof externs.Primitives bytes (errors.Content fault)
IsMetaFileError bytes (errors.Meta fault) = IsUndescribed bytes (errors.Meta fault)
IsMetaFileError bytes (errors.NoPackage n) = IsUndescribed bytes (errors.NoPackage n)
IsMetaFileError bytes errors.NoMemory = Unit {0}
