-- What is answered of a file, from what its form's reader answers.
use Rattle.std.proofs.Common.{◌≡◌, ℕ, ◌≤◌, List, length, refl, sym, ap, ◌∙◌, subst, arith, Result, Ok, Err, Option, None, Some}
use Rattle.std.specs.Prelude.{IfOk, IfErr}
use Rattle.serde_json.specs.Data.{Data}
use Rattle.mof_metamodel.specs.declared.desc.MetaDesc.{MetaDesc}
use Rattle.mof_metamodel.specs.declared.fault.MetaFault.{MetaFault}
use Rattle.object_tables.specs.declared.limit.TheConstants.{MAX_OBJECTS}
use Rattle.mof_metamodel.specs.WellMeta.{WellMeta}
use Rattle.object_tables.specs.Models.{ModelData}
use Rattle.model_assembly.specs.declared.fault.Externs.{Externs}
use Rattle.model_assembly.specs.declared.fault.Externs.TheVariants as externs
use Rattle.xmi_profile.specs.declared.fault.XmiError.{XmiError}
use Rattle.xmi_profile.specs.declared.fault.XmiError.TheVariants as xmi
use Rattle.model_assembly.specs.declared.filed.Filed.{Filed}
use Rattle.model_assembly.specs.AssemblyReferences.{IsSourceOf}
use Rattle.model_assembly.specs.Filed.{IsFiled}
use Rattle.xmi_profile.specs.Reads.{Reads}
use Rattle.model_assembly.specs.SoundFiled.{IsSoundFiled}
use Rattle.model_files.specs.declared.fault.FileError.{FileError}
use Rattle.model_files.specs.declared.fault.FileError.TheVariants as errors
use Rattle.model_files.specs.declared.fault.JsonFault.TheVariants as json_faults
use Rattle.model_files.specs.declared.file_form.Form.{Form}
use Rattle.model_files.specs.declared.file_form.Form.TheVariants.{Xmi, Json}
use Rattle.model_files.specs.Described.{Describes, IsWhy}
use Rattle.model_files.specs.Emof.{emof}
use Rattle.model_files.specs.FileErrors.{error_of, IsToldError}
use Rattle.model_files.specs.FileForm.{form_of}
use Rattle.model_files.specs.Files.{SpellsIn, IsErrorIn, EmofSpells, IsFileError, MetaSpells, IsMetaFileError}
use Rattle.model_files.specs.JsonContent.{source_of}
use Rattle.model_files.specs.JsonFaults.{HasObjects, IsJsonError}
use Rattle.model_assembly.specs.Assembled.{IsWhole, IsAssembled}
use Rattle.model_files.proofs.JsonLinkLaws.{few_objects, nothing_told, model_spelled, fault_told}

-- ---- JSON

module _ (meta : MetaDesc) (well : WellMeta meta) (bytes : List ℕ) (d : Data) (h : HasObjects meta bytes d) (f : Filed) (filed : IsFiled (source_of meta d) f) where
  is_source : IsSourceOf (source_of meta d) meta f
  is_source = record { meta = refl; filed = filed; none_at = nothing_told meta well bytes d h }

  -- what a value writes is whole
  pub is_whole : IsSoundFiled meta f → IsWhole meta f
  is_whole sound = record {
    source = source_of meta d;
    writes = is_source;
    sound = sound;
    few = (let counted = ap (λ (ids : List (List ℕ)). length ids) filed.ids in let few = few_objects meta well bytes d h in omega (arith, counted, few));
  }

  pub assembled_spells : (outside : Externs) (r : Result ModelData FileError) → IfOk r (IsAssembled meta f) → IfOk r (SpellsIn meta outside bytes Json)
  assembled_spells outside (Ok m) is = (d, h.value, model_spelled meta bytes d h m (is (source_of meta d) is_source))
  assembled_spells outside (Err e) is = tt

  told_in_json : (outside : Externs) (e : FileError) → IsToldError meta f e → IsErrorIn meta outside bytes Json e
  told_in_json outside (errors.Text fault) is = absurd is
  told_in_json outside (errors.Json json_faults.Syntax) is = absurd is
  told_in_json outside (errors.Json (json_faults.Shape path)) is = absurd is
  told_in_json outside (errors.Json (json_faults.Content fault)) is = (d, h.value, fault_told meta well bytes d h fault (is (source_of meta d) is_source))
  told_in_json outside (errors.Content fault) is = absurd is
  told_in_json outside (errors.Meta fault) is = absurd is
  told_in_json outside (errors.NoPackage n) is = absurd is
  told_in_json outside errors.NoMemory is = tt

  pub assembled_told : {T : Type 0} (outside : Externs) (r : Result T FileError) → IfErr r (IsToldError meta f) → IfErr r (IsErrorIn meta outside bytes Json)
  assembled_told outside (Ok m) is = tt
  assembled_told outside (Err e) is = told_in_json outside e is

-- an error of a file of JSON
pub json_error : (meta : MetaDesc) (outside : Externs) (bytes : List ℕ) (e : FileError) → IsJsonError meta bytes e → IsErrorIn meta outside bytes Json e
json_error meta outside bytes (errors.Text fault) h = absurd h
json_error meta outside bytes (errors.Json fault) h = h
json_error meta outside bytes (errors.Content fault) h = absurd h
json_error meta outside bytes (errors.Meta fault) h = absurd h
json_error meta outside bytes (errors.NoPackage n) h = absurd h
json_error meta outside bytes errors.NoMemory h = tt

-- ---- XMI

pub xmi_error : (meta : MetaDesc) (outside : Externs) (bytes : List ℕ) (given : XmiError) (e : FileError) → Reads meta outside bytes (Err given) → e ≡ error_of given → IsErrorIn meta outside bytes Xmi e
xmi_error meta outside bytes (xmi.Text fault) e h is = subst (IsErrorIn meta outside bytes Xmi) (sym is) h
xmi_error meta outside bytes (xmi.Content fault) e h is = subst (IsErrorIn meta outside bytes Xmi) (sym is) h
xmi_error meta outside bytes xmi.NoMemory e h is = subst (IsErrorIn meta outside bytes Xmi) (sym is) tt

-- ---- metamodels

pub meta_spelled : (bytes : List ℕ) (m : ModelData) (r : Result MetaDesc FileError) → EmofSpells bytes m → IfOk r (Describes m) → IfOk r (MetaSpells bytes)
meta_spelled bytes m (Ok desc) spelled is = record { model = m; spelled = spelled; describes = is }
meta_spelled bytes m (Err e) spelled is = tt

undescribed : (bytes : List ℕ) (m : ModelData) (e : FileError) → EmofSpells bytes m → IsWhy m e → IsMetaFileError bytes e
undescribed bytes m (errors.Text fault) spelled is = absurd is
undescribed bytes m (errors.Json fault) spelled is = absurd is
undescribed bytes m (errors.Content fault) spelled is = absurd is
undescribed bytes m (errors.Meta fault) spelled is = record { model = m; spelled = spelled; why = is }
undescribed bytes m (errors.NoPackage n) spelled is = record { model = m; spelled = spelled; why = is }
undescribed bytes m errors.NoMemory spelled is = tt

pub not_spelled : {T : Type 0} (bytes : List ℕ) (m : ModelData) (r : Result T FileError) → EmofSpells bytes m → IfErr r (IsWhy m) → IfErr r (IsMetaFileError bytes)
not_spelled bytes m (Ok desc) spelled is = tt
not_spelled bytes m (Err e) spelled is = undescribed bytes m e spelled is

-- an error of a model of EMOF
pub of_emof : (bytes : List ℕ) (e : FileError) → IsFileError emof externs.Primitives bytes e → IsMetaFileError bytes e
of_emof bytes (errors.Text fault) is = is
of_emof bytes (errors.Json fault) is = is
of_emof bytes (errors.Content fault) is = is
of_emof bytes (errors.Meta fault) is = absurd (no_meta (form_of bytes) fault is)
  where
    no_meta : (form : Form) (fault : MetaFault) → IsErrorIn emof externs.Primitives bytes form (errors.Meta fault) → ⊥
    no_meta Xmi fault is = is
    no_meta Json fault is = is
of_emof bytes (errors.NoPackage n) is = absurd (no_package (form_of bytes) n is)
  where
    no_package : (form : Form) (n : ℕ) → IsErrorIn emof externs.Primitives bytes form (errors.NoPackage n) → ⊥
    no_package Xmi n is = is
    no_package Json n is = is
of_emof bytes errors.NoMemory is = tt

-- what is read by EMOF, in the form that the file has
pub emof_spelled : (bytes : List ℕ) (meta : MetaDesc) (form : Form) (m : ModelData) → meta ≡ emof → form ≡ form_of bytes → SpellsIn meta externs.Primitives bytes form m → EmofSpells bytes m
emof_spelled bytes meta form m e f h =
    subst (λ (g : Form). SpellsIn emof externs.Primitives bytes g m) f (subst (λ (d : MetaDesc). SpellsIn d externs.Primitives bytes form m) e h)

pub emof_told : (bytes : List ℕ) (meta : MetaDesc) (form : Form) (error : FileError) → meta ≡ emof → form ≡ form_of bytes → IsErrorIn meta externs.Primitives bytes form error
    → IsMetaFileError bytes error
emof_told bytes meta form error e f h =
    of_emof bytes error
    (subst (λ (g : Form). IsErrorIn emof externs.Primitives bytes g error) f (subst (λ (d : MetaDesc). IsErrorIn d externs.Primitives bytes form error) e h))
