-- A file describes one metamodel, or has faults of which none is told where it describes one; and the faults that are told can be printed.
use Rattle.std.proofs.Common.{◌≡◌, ℕ, Bool, true, false, List, [], ◌∷◌, length, refl, sym, ◌∙◌, ap, subst, true≢false, Option, None, Some, Result, Ok, Err}
use Rattle.std.specs.Prelude.{IfErr, IsOkUnless, option_map}
use Rattle.mof_metamodel.specs.declared.desc.MetaDesc.{MetaDesc}
use Rattle.mof_metamodel.specs.declared.desc.PropId.{PropId}
use Rattle.mof_metamodel.specs.declared.fault.MetaFault.{MetaFault}
use Rattle.mof_metamodel.specs.declared.fault.MetaKind.{MetaKind}
use Rattle.mof_metamodel.specs.declared.fault.MetaKind.TheVariants as meta_kinds
use Rattle.mof_metamodel.specs.MetaFaults.{IsFirstFault, is_within_limits}
use Rattle.mof_metamodel.specs.Metamodels.{prop_count}
use Rattle.mof_metamodel.specs.WellMeta.{WellMeta}
use Rattle.mof_metamodel.proofs.PropLemmas.{prop_known}
use Rattle.mof_metamodel.proofs.WellLemmas.{well_where_none}
use Rattle.object_tables.specs.declared.breach.Breach.{Breach}
use Rattle.object_tables.specs.declared.breach.BreachKind.{BreachKind}
use Rattle.object_tables.specs.declared.breach.BreachKind.TheVariants as kinds
use Rattle.object_tables.specs.Models.{ModelData}
use Rattle.object_tables.specs.Validity.{IsFirst, IsPropertyOf}
use Rattle.model_assembly.specs.declared.fault.Externs.{Externs}
use Rattle.model_assembly.specs.declared.fault.Externs.TheVariants as externs
use Rattle.model_assembly.specs.declared.fault.ModelFault.{ModelFault}
use Rattle.model_assembly.specs.declared.fault.ModelFault.TheVariants as faults
use Rattle.model_assembly.specs.FirstFault as first
use Rattle.model_assembly.specs.Source.{Source}
use Rattle.xmi_profile.specs.Reads as reads
use Rattle.model_files.specs.declared.fault.FileError.{FileError}
use Rattle.model_files.specs.declared.fault.FileError.TheVariants as errors
use Rattle.model_files.specs.declared.fault.JsonFault.{JsonFault}
use Rattle.model_files.specs.declared.fault.JsonFault.TheVariants as json_faults
use Rattle.model_files.specs.declared.file_form.Form.{Form}
use Rattle.model_files.specs.declared.file_form.Form.TheVariants.{Xmi, Json}
use Rattle.model_files.specs.Described.{Describes, IsWhy, top_packages, description_of}
use Rattle.model_files.specs.Emof.{emof}
use Rattle.model_files.specs.FaultTexts.{is_limit, is_meta_limit, IsKnownProp, IsKnownFault, IsKnownJsonFault, IsKnownError}
use Rattle.model_files.specs.FileForm.{form_of}
use Rattle.model_files.specs.Files.{IsErrorIn, IsTold, IsFileError, EmofSpells, MetaSpells, IsUndescribed, IsMetaFileError}
use Rattle.model_files.specs.JsonContent.{source_of, IsFirstContentFault}
use Rattle.model_files.specs.JsonFaults.{IsJsonFault}
use Rattle.model_files.proofs.DescriptionLaws.{none_described}
use Rattle.model_files.proofs.FaultlessLaws.{one_test}
use Rattle.model_files.proofs.FileLaws.{one_in, no_error_in, same_limit_in}

-- ---- one metamodel

pub heads : {a b : ℕ} → a ∷ [] ≡ b ∷ [] → a ≡ b
heads e = cc

one_described : (m : ModelData) (a b : MetaDesc) → Describes m a → Describes m b → a ≡ b
one_described m a b x y = x.description ∙ ap (description_of m) (heads (sym x.only ∙ y.only)) ∙ sym y.description

pub one_emof : (bytes : List ℕ) (m n : ModelData) → EmofSpells bytes m → EmofSpells bytes n → m ≡ n
one_emof bytes m n x y = one_in emof externs.Primitives bytes (form_of bytes) m n x y

-- a file describes one metamodel
pub one_metamodel : (bytes : List ℕ) (a b : MetaDesc) → MetaSpells bytes a → MetaSpells bytes b → a ≡ b
one_metamodel bytes a b x y =
    one_described x.model a b x.describes (subst (λ (m : ModelData). Describes m b) (one_emof bytes y.model x.model y.spelled x.spelled) y.describes)

-- ---- no fault beside a metamodel

not_why : (m : ModelData) (desc : MetaDesc) → Describes m desc → (e : FileError) → IsWhy m e → e ≡ errors.NoMemory
not_why m desc x (errors.Text fault) y = absurd y
not_why m desc x (errors.Json fault) y = absurd y
not_why m desc x (errors.Content fault) y = absurd y
not_why m desc x (errors.Meta fault) (root, only, y) =
    let same : root ≡ x.root = heads (sym only ∙ x.only) in
    let told : IsFirstFault desc fault.kind fault.name =
    subst (λ (d : MetaDesc). IsFirstFault d fault.kind fault.name) (ap (description_of m) same ∙ sym x.description) y in
    absurd ((well_where_none desc).0 x.well fault.kind fault.name told)
not_why m desc x (errors.NoPackage n) y = absurd (none_described m n desc y.0 y.1 x)
not_why m desc x errors.NoMemory y = refl

not_undescribed : (bytes : List ℕ) (desc : MetaDesc) → MetaSpells bytes desc → (e : FileError) → IsUndescribed bytes e → e ≡ errors.NoMemory
not_undescribed bytes desc x e y =
    not_why x.model desc x.describes e (subst (λ (m : ModelData). IsWhy m e) (one_emof bytes y.model x.model y.spelled x.spelled) y.why)

-- where a file describes a metamodel, no error is told but want of memory
pub no_meta_error : (bytes : List ℕ) (desc : MetaDesc) → MetaSpells bytes desc → (e : FileError) → IsMetaFileError bytes e → e ≡ errors.NoMemory
no_meta_error bytes desc x (errors.Text fault) y = no_error_in emof externs.Primitives bytes x.model (form_of bytes) x.spelled (errors.Text fault) y
no_meta_error bytes desc x (errors.Json fault) y = no_error_in emof externs.Primitives bytes x.model (form_of bytes) x.spelled (errors.Json fault) y
no_meta_error bytes desc x (errors.Content fault) y = no_error_in emof externs.Primitives bytes x.model (form_of bytes) x.spelled (errors.Content fault) y
no_meta_error bytes desc x (errors.Meta fault) y = not_undescribed bytes desc x (errors.Meta fault) y
no_meta_error bytes desc x (errors.NoPackage n) y = not_undescribed bytes desc x (errors.NoPackage n) y
no_meta_error bytes desc x errors.NoMemory y = refl

-- so it is answered
pub only_meta : {T : Type 0} (bytes : List ℕ) (r : Result T FileError) → IfErr r (IsMetaFileError bytes) → (desc : MetaDesc) → MetaSpells bytes desc → IsOkUnless r errors.NoMemory
only_meta bytes (Ok x) h desc spelled = tt
only_meta bytes (Err e) h desc spelled = no_meta_error bytes desc spelled e h

-- ---- limits

within : (desc : MetaDesc) (kind : MetaKind) (name : List ℕ) → is_meta_limit kind ≡ false → IsFirstFault desc kind name → is_within_limits desc ≡ true
within desc meta_kinds.Limit name e h = absurd cc
within desc meta_kinds.BadName name e h = h.0
within desc meta_kinds.DuplicateName name e h = h.0.0
within desc meta_kinds.UnknownType name e h = h.0.0.0
within desc meta_kinds.SuperCycle name e h = h.0.0.0.0
within desc meta_kinds.BadBounds name e h = h.0.0.0.0.0
within desc meta_kinds.BadOpposite name e h = h.0.0.0.0.0.0
within desc meta_kinds.TwoContainers name e h = h.0.0.0.0.0.0.0

beyond : (desc : MetaDesc) (kind : MetaKind) (name : List ℕ) → is_meta_limit kind ≡ true → IsFirstFault desc kind name → is_within_limits desc ≡ false
beyond desc meta_kinds.Limit name e h = h.0
beyond desc meta_kinds.BadName name e h = absurd cc
beyond desc meta_kinds.DuplicateName name e h = absurd cc
beyond desc meta_kinds.UnknownType name e h = absurd cc
beyond desc meta_kinds.SuperCycle name e h = absurd cc
beyond desc meta_kinds.BadBounds name e h = absurd cc
beyond desc meta_kinds.BadOpposite name e h = absurd cc
beyond desc meta_kinds.TwoContainers name e h = absurd cc

same_meta_limit : (desc : MetaDesc) (f g : MetaFault) → IsFirstFault desc f.kind f.name → IsFirstFault desc g.kind g.name → is_meta_limit f.kind ≡ is_meta_limit g.kind
same_meta_limit desc f g x y =
    one_test (is_meta_limit f.kind) (is_meta_limit g.kind)
    (λ e h. true≢false (sym (within desc g.kind g.name h y) ∙ beyond desc f.kind f.name e x))
    (λ e h. true≢false (sym (within desc f.kind f.name h x) ∙ beyond desc g.kind g.name e y))

same_why_limit : (m : ModelData) (e f : FileError) → IsTold e → IsTold f → IsWhy m e → IsWhy m f → is_limit e ≡ is_limit f
same_why_limit m (errors.Text e) f n o x y = absurd x
same_why_limit m (errors.Json e) f n o x y = absurd x
same_why_limit m (errors.Content e) f n o x y = absurd x
same_why_limit m errors.NoMemory f n o x y = absurd (n refl)
same_why_limit m (errors.Meta e) f n o (root, only, x) y = by f o y
  where
    by : (f : FileError) → IsTold f → IsWhy m f → is_meta_limit e.kind ≡ is_limit f
    by (errors.Text f) o y = absurd y
    by (errors.Json f) o y = absurd y
    by (errors.Content f) o y = absurd y
    by (errors.Meta f) o (other, there, y) =
        same_meta_limit (description_of m root) e f x (subst (λ (r : ℕ). IsFirstFault (description_of m r) f.kind f.name) (heads (sym there ∙ only)) y)
    by (errors.NoPackage f) o (y, z) = absurd (z (y ∙ ap length only))
    by errors.NoMemory o y = absurd (o refl)
same_why_limit m (errors.NoPackage e) f n o (x, z) y = by f o y
  where
    by : (f : FileError) → IsTold f → IsWhy m f → false ≡ is_limit f
    by (errors.Text f) o y = absurd y
    by (errors.Json f) o y = absurd y
    by (errors.Content f) o y = absurd y
    by (errors.Meta f) o (other, there, y) = absurd (z (x ∙ ap length there))
    by (errors.NoPackage f) o y = refl
    by errors.NoMemory o y = absurd (o refl)

-- an error of a model of EMOF, or why it describes no metamodel
pub data IsOf (bytes : List ℕ) (e : FileError) : Type 0 where
  OfModel : IsFileError emof externs.Primitives bytes e → IsOf bytes e
  OfDescription : IsUndescribed bytes e → IsOf bytes e

pub is_of : (bytes : List ℕ) (e : FileError) → IsTold e → IsMetaFileError bytes e → IsOf bytes e
is_of bytes (errors.Text fault) n x = OfModel x
is_of bytes (errors.Json fault) n x = OfModel x
is_of bytes (errors.Content fault) n x = OfModel x
is_of bytes (errors.Meta fault) n x = OfDescription x
is_of bytes (errors.NoPackage k) n x = OfDescription x
is_of bytes errors.NoMemory n x = absurd (n refl)

pub not_both : (bytes : List ℕ) (e f : FileError) → IsTold e → IsFileError emof externs.Primitives bytes e → IsUndescribed bytes f → ⊥
not_both bytes e f n x y = n (no_error_in emof externs.Primitives bytes y.model (form_of bytes) y.spelled e x)

-- of two errors that are told of a file both are limits, or none is
pub same_limit_of_metamodel : (bytes : List ℕ) (e f : FileError) → IsTold e → IsTold f → IsMetaFileError bytes e → IsMetaFileError bytes f → is_limit e ≡ is_limit f
same_limit_of_metamodel bytes e f n o x y = by (is_of bytes e n x) (is_of bytes f o y)
  where
    by : IsOf bytes e → IsOf bytes f → is_limit e ≡ is_limit f
    by (OfModel x) (OfModel y) = same_limit_in emof externs.Primitives bytes (form_of bytes) e f n o x y
    by (OfModel x) (OfDescription y) = absurd (not_both bytes e f n x y)
    by (OfDescription x) (OfModel y) = absurd (not_both bytes f e o y x)
    by (OfDescription x) (OfDescription y) =
        same_why_limit x.model e f n o x.why (subst (λ (m : ModelData). IsWhy m f) (one_emof bytes y.model x.model y.spelled x.spelled) y.why)

-- ---- what can be printed

known_prop : (m : ModelData) (kind : BreachKind) (o : ℕ) (prop : Option PropId) → IsFirst m kind o (option_map (λ p. p.0) prop) → IsKnownProp m.meta prop
known_prop m kind o None h = tt
known_prop m kinds.Lower o (Some p) (few, before) = prop_known m.meta few.property.class p.0 few.property.has
known_prop m kinds.Upper o (Some p) ((enough, many), before) = prop_known m.meta many.property.class p.0 many.property.has
known_prop m kinds.ContainmentCycle o (Some p) (none, before) = absurd none

known_fault : (s : Source) (fault : ModelFault) → first.IsFirstFault s fault → IsKnownFault s.meta fault
known_fault s (faults.Invalid breach id) x =
    subst (λ (d : MetaDesc). IsKnownProp d breach.prop) x.content.meta (known_prop x.model breach.kind breach.object.0 breach.prop x.broken)
known_fault s (faults.Limit kind) x = tt
known_fault s (faults.UnknownClass name) x = tt
known_fault s (faults.UnknownProperty id prop) x = tt
known_fault s (faults.WrongValue id prop) x = tt
known_fault s (faults.DuplicateId id) x = tt
known_fault s (faults.Dangling id prop reference) x = tt
known_fault s (faults.TwoContainers id) x = tt
known_fault s (faults.Mismatch id prop other other_prop) x = tt

known_json : (meta : MetaDesc) (bytes : List ℕ) (fault : JsonFault) → IsJsonFault meta bytes fault → IsKnownJsonFault meta fault
known_json meta bytes json_faults.Syntax x = tt
known_json meta bytes (json_faults.Shape path) x = tt
known_json meta bytes (json_faults.Content fault) (d, e, x) = by fault x
  where
    by : (f : ModelFault) → IsFirstContentFault meta d f → IsKnownFault meta f
    by (faults.Invalid breach id) y = known_fault (source_of meta d) (faults.Invalid breach id) y.first
    by (faults.Limit kind) y = tt
    by (faults.UnknownClass name) y = tt
    by (faults.UnknownProperty id prop) y = tt
    by (faults.WrongValue id prop) y = tt
    by (faults.DuplicateId id) y = tt
    by (faults.Dangling id prop reference) y = tt
    by (faults.TwoContainers id) y = tt
    by (faults.Mismatch id prop other other_prop) y = tt

-- the error of a file can be printed by the metamodel
pub known_in : (meta : MetaDesc) (outside : Externs) (bytes : List ℕ) (form : Form) (e : FileError) → IsErrorIn meta outside bytes form e → IsKnownError meta e
known_in meta outside bytes Xmi (errors.Content fault) x = known_fault (reads.source_of meta outside x.tree) fault x.first
known_in meta outside bytes Json (errors.Content fault) x = absurd x
known_in meta outside bytes Xmi (errors.Json fault) x = absurd x
known_in meta outside bytes Json (errors.Json fault) x = known_json meta bytes fault x
known_in meta outside bytes form (errors.Text fault) x = tt
known_in meta outside bytes form (errors.Meta fault) x = tt
known_in meta outside bytes form (errors.NoPackage n) x = tt
known_in meta outside bytes form errors.NoMemory x = tt

-- and that of the file of a metamodel by EMOF
pub known_of_metamodel : (bytes : List ℕ) (e : FileError) → IsMetaFileError bytes e → IsKnownError emof e
known_of_metamodel bytes (errors.Text fault) x = tt
known_of_metamodel bytes (errors.Json fault) x = known_in emof externs.Primitives bytes (form_of bytes) (errors.Json fault) x
known_of_metamodel bytes (errors.Content fault) x = known_in emof externs.Primitives bytes (form_of bytes) (errors.Content fault) x
known_of_metamodel bytes (errors.Meta fault) x = tt
known_of_metamodel bytes (errors.NoPackage n) x = tt
known_of_metamodel bytes errors.NoMemory x = tt

pub known_answer : {T : Type 0} (bytes : List ℕ) (r : Result T FileError) → IfErr r (IsMetaFileError bytes) → IfErr r (IsKnownError emof)
known_answer bytes (Ok x) h = tt
known_answer bytes (Err e) h = known_of_metamodel bytes e h
