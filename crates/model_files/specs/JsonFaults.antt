-- What is known of a file of JSON before the links of its objects are looked at, and which fault it has.
use Rattle.std.specs.Prelude.{◌≡◌, ◌≤◌, ℕ, nat_lt, List, length, Option, None, Some, if◌then◌else◌}
use Rattle.serde_json.specs.Data.{Data}
use Rattle.mof_metamodel.specs.declared.desc.MetaDesc.{MetaDesc}
use Rattle.object_tables.specs.declared.limit.TheConstants.{MAX_OBJECTS}
use Rattle.object_tables.specs.declared.limit.LimitKind.TheVariants as limits
use Rattle.model_assembly.specs.declared.fault.ModelFault.{ModelFault}
use Rattle.model_assembly.specs.declared.fault.ModelFault.TheVariants as content
use Rattle.model_files.specs.declared.fault.FileError.{FileError}
use Rattle.model_files.specs.declared.fault.FileError.TheVariants as errors
use Rattle.model_files.specs.declared.fault.JsonFault.{JsonFault}
use Rattle.model_files.specs.declared.fault.JsonFault.TheVariants as faults
use Rattle.model_files.specs.JsonContent.{Written, objects_of, first_wrong, IsFirstContentFault}
use Rattle.model_files.specs.JsonText.{value_in}
use Rattle.model_files.specs.Shape.{first_amiss}

-- the file is a value that has the form of a model
pub record HasShape (bytes : List ℕ) (d : Data) : Type 0 where
  pub value : value_in bytes ≡ Some d
  pub shape : first_amiss d ≡ None

-- its objects are no more than a model may have, and no fault that is told by its place stands among them
pub record HasObjects (meta : MetaDesc) (bytes : List ℕ) (d : Data) : Type 0 where
  pub value : value_in bytes ≡ Some d
  pub shape : first_amiss d ≡ None
  pub fewer : length (objects_of d) ≤ MAX_OBJECTS
  pub right : first_wrong meta (objects_of d) ≡ None

-- the first fault of objects that is told before links are looked at: there are too many, or it is told by its place
abbrev pub first_fault : MetaDesc → List Written → Option ModelFault
first_fault meta objects = if nat_lt MAX_OBJECTS (length objects) then Some (content.Limit limits.Objects) else first_wrong meta objects

-- the fault of a file: it is no value, or one that differs from the form of a model, or its objects are no model
abbrev pub IsJsonFault : MetaDesc → List ℕ → JsonFault → Type 0
IsJsonFault meta bytes faults.Syntax = value_in bytes ≡ None
IsJsonFault meta bytes (faults.Shape path) = (d : Data) × (value_in bytes ≡ Some d) × (first_amiss d ≡ Some path)
IsJsonFault meta bytes (faults.Content fault) = (d : Data) × (value_in bytes ≡ Some d) × IsFirstContentFault meta d fault

-- the error of a file that is no value, or one that differs from the form of a model
abbrev pub IsUnshaped : List ℕ → FileError → Type 0
IsUnshaped bytes (errors.Text fault) = ⊥
IsUnshaped bytes (errors.Json faults.Syntax) = value_in bytes ≡ None
IsUnshaped bytes (errors.Json (faults.Shape path)) = (d : Data) × (value_in bytes ≡ Some d) × (first_amiss d ≡ Some path)
IsUnshaped bytes (errors.Json (faults.Content fault)) = ⊥
IsUnshaped bytes (errors.Content fault) = ⊥
IsUnshaped bytes (errors.Meta fault) = ⊥
IsUnshaped bytes (errors.NoPackage n) = ⊥
IsUnshaped bytes errors.NoMemory = Unit {0}

-- the error of a file by this metamodel
abbrev pub IsJsonError : MetaDesc → List ℕ → FileError → Type 0
IsJsonError meta bytes (errors.Text fault) = ⊥
IsJsonError meta bytes (errors.Json fault) = IsJsonFault meta bytes fault
IsJsonError meta bytes (errors.Content fault) = ⊥
IsJsonError meta bytes (errors.Meta fault) = ⊥
IsJsonError meta bytes (errors.NoPackage n) = ⊥
IsJsonError meta bytes errors.NoMemory = Unit {0}
