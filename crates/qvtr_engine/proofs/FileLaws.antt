-- What files are, and which errors are told of them.
use Rattle.std.proofs.Common.{◌≡◌, ℕ, ◌≤◌, List}
use Rattle.mof_metamodel.specs.declared.desc.MetaDesc.{MetaDesc}
use Rattle.object_tables.specs.declared.limit.TheConstants.{MAX_DEPTH}
use Rattle.mof_metamodel.specs.WellMeta.{WellMeta}
use Rattle.object_tables.specs.Containment.{IsDepth}
use Rattle.object_tables.specs.Models.{ModelData, IsLive}
use Rattle.object_tables.specs.Validity.{Valid}
use Rattle.model_assembly.specs.declared.fault.Externs.{Externs}
use Rattle.model_files.specs.declared.fault.FileError.{FileError}
use Rattle.model_files.specs.declared.file_form.Form.{Form}
use Rattle.model_files.specs.declared.file_form.Form.TheVariants.{Xmi, Json}
use Rattle.model_files.specs.FileForm.{form_of}
use Rattle.model_files.specs.Files.{FileSpells, IsFileError, IsTold, MetaSpells, IsMetaFileError, SpellsIn}
use Rattle.model_files.proofs.EmofLaws.{emof_is_well}
use Rattle.model_files.proofs.FileLaws.{one_in, no_error_in}
use Rattle.model_files.proofs.MetaFileLaws.{one_metamodel, no_meta_error}
use Rattle.model_files.proofs.OneErrorLaws.{one_error_in, one_error_of_metamodel}

-- what is kept by the model of a file
valid_in : (meta : MetaDesc) (outside : Externs) (bytes : List ℕ) (form : Form) (m : ModelData) → SpellsIn meta outside bytes form m → Valid m
valid_in meta outside bytes Xmi m h = h.model.valid
valid_in meta outside bytes Json m h = h.2.model.valid

pub file_valid : (meta : MetaDesc) (outside : Externs) (bytes : List ℕ) (m : ModelData) → FileSpells meta outside bytes m → Valid m
file_valid meta outside bytes m h = valid_in meta outside bytes (form_of bytes) m h

depth_in : (meta : MetaDesc) (outside : Externs) (bytes : List ℕ) (form : Form) (m : ModelData) → SpellsIn meta outside bytes form m
    → (o d : ℕ) → IsLive m o → IsDepth m o d → d ≤ MAX_DEPTH
depth_in meta outside bytes Xmi m h = h.model.depth
depth_in meta outside bytes Json m h = h.2.model.depth

pub file_depth : (meta : MetaDesc) (outside : Externs) (bytes : List ℕ) (m : ModelData) → FileSpells meta outside bytes m
    → (o d : ℕ) → IsLive m o → IsDepth m o d → d ≤ MAX_DEPTH
file_depth meta outside bytes m h = depth_in meta outside bytes (form_of bytes) m h

-- a file is one model, and one metamodel
pub one_model : (meta : MetaDesc) (outside : Externs) (bytes : List ℕ) (a b : ModelData) → FileSpells meta outside bytes a → FileSpells meta outside bytes b → a ≡ b
one_model meta outside bytes a b x y = one_in meta outside bytes (form_of bytes) a b x y

pub one_meta : (bytes : List ℕ) (a b : MetaDesc) → MetaSpells bytes a → MetaSpells bytes b → a ≡ b
one_meta = one_metamodel

-- of which no error is told
pub no_error : (meta : MetaDesc) (outside : Externs) (bytes : List ℕ) (m : ModelData) (e : FileError) → FileSpells meta outside bytes m → IsTold e → IsFileError meta outside bytes e → ⊥
no_error meta outside bytes m e x told y = told (no_error_in meta outside bytes m (form_of bytes) x e y)

pub no_error_of_meta : (bytes : List ℕ) (desc : MetaDesc) (e : FileError) → MetaSpells bytes desc → IsTold e → IsMetaFileError bytes e → ⊥
no_error_of_meta bytes desc e x told y = told (no_meta_error bytes desc x e y)

-- one error is told
pub one_told : (meta : MetaDesc) (outside : Externs) (bytes : List ℕ) → WellMeta meta → (e f : FileError) → IsTold e → IsTold f
    → IsFileError meta outside bytes e → IsFileError meta outside bytes f → e ≡ f
one_told meta outside bytes well e f t u x y = one_error_in meta outside bytes well (form_of bytes) e f t u x y

pub one_told_of_meta : (bytes : List ℕ) (e f : FileError) → IsTold e → IsTold f → IsMetaFileError bytes e → IsMetaFileError bytes f → e ≡ f
one_told_of_meta = one_error_of_metamodel emof_is_well

-- a metamodel that is read is well formed
pub described_well : (bytes : List ℕ) (desc : MetaDesc) → MetaSpells bytes desc → WellMeta desc
described_well bytes desc h = h.describes.well
