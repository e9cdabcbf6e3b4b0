-- The reading of files, against what they are and what stops the work there.
use Rattle.std.proofs.Common.{◌≡◌, ℕ, ◌<◌, ◌≤◌, ◌⊎◌, inl, inr, Bool, true, List, [], ◌∷◌, length, refl, sym, ◌∙◌, ap, subst, Option, Some, None, Result, Ok, Err}
use Rattle.std.specs.Prelude.{IfSome, IsSomeAnd, IfOk, IfErr}
use Rattle.std.specs.FinMap.{get}
use Rattle.std.proofs.lemmas.Bool.{false≢true}
use Rattle.mof_metamodel.specs.declared.desc.MetaDesc.{MetaDesc}
use Rattle.vault_io.specs.Counts.{Rose}
use Rattle.vault_io.specs.Files.{Files, MayFail, OfFile}
use Rattle.object_tables.specs.Models.{ModelData}
use Rattle.model_assembly.specs.declared.fault.Externs.TheVariants as externs
use Rattle.model_files.specs.declared.fault.FileError.{FileError}
use Rattle.model_files.specs.declared.fault.FileError.TheVariants as errors
use Rattle.model_files.specs.declared.file_form.Form.{Form}
use Rattle.model_files.specs.declared.files.Read.{Read}
use Rattle.model_files.specs.FileForm.{form_of}
use Rattle.model_files.specs.declared.file_form.Form.TheVariants.{Xmi, Json}
use Rattle.model_files.specs.Files.{FileSpells, IsTold, MetaSpells, SpellsIn}
use Rattle.object_tables.specs.declared.limit.TheConstants.{MAX_OBJECTS}
use Rattle.object_tables.specs.Kept.{Kept}
use Rattle.qvtr_engine.specs.ReadModels.{IsReadBy}
use Rattle.qvtr_engine.proofs.FileLaws.{file_valid}
use Rattle.qvtr_engine.specs.declared.limits.TheConstants.{MAX_FILE}
use Rattle.qvtr_engine.specs.declared.outcome.Stop.{Stop}
use Rattle.qvtr_engine.specs.declared.outcome.Stop.TheVariants as stop
use Rattle.qvtr_engine.specs.Names.{is_among}
use Rattle.qvtr_engine.specs.ConvertAnswer.{IsMetamodelAt, IsModelAt}
use Rattle.qvtr_engine.specs.FileStops.{HasShortFile, Unloaded, missing, long, Stops, unloaded, misread}
use Rattle.qvtr_engine.specs.ReadingFiles.{IsLineOf, IsMisread, IsUnread, is_starved, IsStopBy}
use Rattle.qvtr_engine.specs.Reply.{Reply, unread, faulty, too_long}
use Rattle.qvtr_engine.specs.Stops.{StoppedBy}
use Rattle.qvtr_engine.specs.Target.{form_in, form_at}
use Rattle.qvtr_engine.proofs.StopLaws.{among_first, stopped_wider}

-- ---- a file that wasn't loaded

pub load_failed : (told : Option Files) (path : List ℕ) (before after : ℕ) → MayFail told path before after
    → IsSomeAnd told (λ files. Unloaded files path (unread path)) ⊎ (Rose before after × (is_among (path ∷ []) path ≡ true))
load_failed told path before after (inl rose) = inr (rose, among_first path [])
load_failed None path before after (inr lacks) = absurd lacks
load_failed (Some files) path before after (inr lacks) = inl (missing lacks)

long_file : (files : Files) (path : List ℕ) (o : Option (List ℕ)) → get files path ≡ o → IsSomeAnd o (λ file. MAX_FILE < length file) → Unloaded files path (too_long path)
long_file files path None e l = absurd l
long_file files path (Some bytes) e l = long bytes e l

pub load_long : (told : Option Files) (path : List ℕ) → OfFile told path (λ file. MAX_FILE < length file) → IfSome told (λ files. Unloaded files path (too_long path))
load_long None path l = tt
load_long (Some files) path l = long_file files path (get files path) refl l

pub loaded : (told : Option Files) (path bytes : List ℕ) → IfSome told (λ files. get files path ≡ Some bytes) → length bytes ≤ MAX_FILE
    → IfSome told (λ files. HasShortFile files path bytes)
loaded None path bytes e l = tt
loaded (Some files) path bytes e l = record { file = e; short = l }

-- ---- a file that wasn't read

pub misread_is_unread : (s : Stop) (meta : MetaDesc) (path : List ℕ) (error : FileError) (IsError : FileError → Type 0)
    → IsTold error → IsError error → IsMisread s meta path error → IsUnread s meta path IsError
misread_is_unread (stop.Fault at) meta path error IsError n e m = m
misread_is_unread (stop.TooLong at) meta path error IsError n e m = m
misread_is_unread (stop.Faulty limit line) meta path error IsError n e m = (error, n, e, m)
misread_is_unread (stop.Refused cause text) meta path error IsError n e m = m
misread_is_unread stop.NoMemory meta path error IsError n e m = tt

-- the work stops at an error of the file, or for want of memory
pub stop_unread : (s : Stop) (meta : MetaDesc) (path : List ℕ) (error : FileError) (IsError : FileError → Type 0)
    → IsError error → IsStopBy (is_starved error) s meta path error → IsUnread s meta path IsError
stop_unread s meta path (errors.Text fault) IsError e is = misread_is_unread s meta path (errors.Text fault) IsError (λ same. false≢true (ap is_starved same)) e is
stop_unread s meta path (errors.Json fault) IsError e is = misread_is_unread s meta path (errors.Json fault) IsError (λ same. false≢true (ap is_starved same)) e is
stop_unread s meta path (errors.Content fault) IsError e is = misread_is_unread s meta path (errors.Content fault) IsError (λ same. false≢true (ap is_starved same)) e is
stop_unread s meta path (errors.Meta fault) IsError e is = misread_is_unread s meta path (errors.Meta fault) IsError (λ same. false≢true (ap is_starved same)) e is
stop_unread s meta path (errors.NoPackage n) IsError e is = misread_is_unread s meta path (errors.NoPackage n) IsError (λ same. false≢true (ap is_starved same)) e is
stop_unread s meta path errors.NoMemory IsError e is = subst (λ t. IsUnread t meta path IsError) (sym is) tt

line_stops : (files : Files) (path bytes : List ℕ) (meta : MetaDesc) (IsError : List ℕ → FileError → Type 0) (limit : Bool) (line : List ℕ) (error : FileError)
    → HasShortFile files path bytes → IsTold error → IsError bytes error → IsLineOf limit line meta path error → Stops files path meta IsError (faulty limit line)
line_stops files path bytes meta IsError limit line error h n e m =
    subst (Stops files path meta IsError) (λ i. faulty (sym m.0 i) (sym m.1 i)) (misread bytes h error n e)

pub unread_stops : (s : Stop) (told : Option Files) (path bytes : List ℕ) (meta : MetaDesc) (IsError : List ℕ → FileError → Type 0) (faulted : Type 0) (paths : List (List ℕ))
    → IfSome told (λ files. HasShortFile files path bytes) → IsUnread s meta path (IsError bytes) → StoppedBy s told (λ files. Stops files path meta IsError) faulted paths
unread_stops (stop.Fault at) told path bytes meta IsError f ps h u = absurd u
unread_stops (stop.TooLong at) told path bytes meta IsError f ps h u = absurd u
unread_stops (stop.Faulty limit line) None path bytes meta IsError f ps h u = tt
unread_stops (stop.Faulty limit line) (Some files) path bytes meta IsError f ps h u = line_stops files path bytes meta IsError limit line u.0 h u.1 u.2 u.3
unread_stops (stop.Refused cause text) told path bytes meta IsError f ps h u = absurd u
unread_stops stop.NoMemory told path bytes meta IsError f ps h u = tt

all_replies : (told : Option Files) (P Q : Files → Reply → Type 0) → ((files : Files) (reply : Reply) → P files reply → Q files reply)
    → IfSome told (λ files. (reply : Reply) → P files reply → Q files reply)
all_replies None P Q h = tt
all_replies (Some files) P Q h = h files

pub unloaded_stops : (s : Stop) (told : Option Files) (path : List ℕ) (meta : MetaDesc) (IsError : List ℕ → FileError → Type 0) (faulted : Type 0) (paths : List (List ℕ))
    → StoppedBy s told (λ files. Unloaded files path) faulted paths → StoppedBy s told (λ files. Stops files path meta IsError) faulted paths
unloaded_stops s told path meta IsError f ps u =
    stopped_wider s told _ _ f f ps ps (all_replies told _ _ (λ files reply. unloaded reply)) (λ x. x) (λ p h. h) u

pub metamodel_found : (told : Option Files) (path bytes : List ℕ) (meta : MetaDesc) → IfSome told (λ files. HasShortFile files path bytes) → MetaSpells bytes meta
    → IfSome told (λ files. IsMetamodelAt files path meta)
metamodel_found None path bytes meta h m = tt
metamodel_found (Some files) path bytes meta h m = (bytes, h, m)

pub model_found : (told : Option Files) (path bytes : List ℕ) (meta : MetaDesc) (m : ModelData) → IfSome told (λ files. HasShortFile files path bytes)
    → FileSpells meta externs.None bytes m → IfSome told (λ files. IsModelAt files path meta m)
model_found None path bytes meta m h s = tt
model_found (Some files) path bytes meta m h s = (bytes, h, s)

-- the same of what is answered
pub metamodel_ok : (r : Result MetaDesc Stop) (told : Option Files) (path bytes : List ℕ) → IfSome told (λ files. HasShortFile files path bytes)
    → IfOk r (MetaSpells bytes) → IfOk r (λ meta. IfSome told (λ files. IsMetamodelAt files path meta))
metamodel_ok (Ok meta) told path bytes h m = metamodel_found told path bytes meta h m
metamodel_ok (Err s) told path bytes h m = tt

pub model_ok : (r : Result Read Stop) (told : Option Files) (path bytes : List ℕ) (meta : MetaDesc) → IfSome told (λ files. HasShortFile files path bytes)
    → IfOk r (λ read. FileSpells meta externs.None bytes read.model) → IfOk r (λ read. IfSome told (λ files. IsModelAt files path meta read.model))
model_ok (Ok read) told path bytes meta h s = model_found told path bytes meta read.model h s
model_ok (Err s) told path bytes meta h x = tt

form_found : (told : Option Files) (path bytes : List ℕ) (form : Form) → IfSome told (λ files. HasShortFile files path bytes) → form ≡ form_of bytes
    → IfSome told (λ files. form ≡ form_at files path)
form_found None path bytes form h is = tt
form_found (Some files) path bytes form h is = is ∙ ap form_in (sym h.file)

pub form_ok : (r : Result Read Stop) (told : Option Files) (path bytes : List ℕ) → IfSome told (λ files. HasShortFile files path bytes)
    → IfOk r (λ read. read.form ≡ form_of bytes) → IfOk r (λ read. IfSome told (λ files. read.form ≡ form_at files path))
form_ok (Ok read) told path bytes h is = form_found told path bytes read.form h is
form_ok (Err s) told path bytes h is = tt

pub unread_err : {X : Type 0} (r : Result X Stop) (told : Option Files) (path bytes : List ℕ) (meta : MetaDesc) (IsError : List ℕ → FileError → Type 0) (faulted : Type 0) (paths : List (List ℕ))
    → IfSome told (λ files. HasShortFile files path bytes) → IfErr r (λ s. IsUnread s meta path (IsError bytes))
    → IfErr r (λ s. StoppedBy s told (λ files. Stops files path meta IsError) faulted paths)
unread_err (Ok x) told path bytes meta IsError faulted paths h u = tt
unread_err (Err s) told path bytes meta IsError faulted paths h u = unread_stops s told path bytes meta IsError faulted paths h u

-- ---- what is known of a model that is read

model_meta : (meta : MetaDesc) (form : Form) (bytes : List ℕ) (m : ModelData) → SpellsIn meta externs.None bytes form m → m.meta ≡ meta
model_meta meta Xmi bytes m s = s.model.content.meta
model_meta meta Json bytes m s = s.2.model.content.meta

model_few : (meta : MetaDesc) (form : Form) (bytes : List ℕ) (m : ModelData) → SpellsIn meta externs.None bytes form m → length m.objects ≤ MAX_OBJECTS
model_few meta Xmi bytes m s = subst (λ n. n ≤ MAX_OBJECTS) (sym s.model.content.count) s.model.objects
model_few meta Json bytes m s = subst (λ n. n ≤ MAX_OBJECTS) (sym s.2.model.content.count) s.2.model.objects

pub read_by : (meta : MetaDesc) (bytes : List ℕ) (m : ModelData) → FileSpells meta externs.None bytes m → Kept m → IsReadBy meta m
read_by meta bytes m s kept = record {
  meta_is = model_meta meta (form_of bytes) bytes m s;
  kept = kept;
  valid = file_valid meta externs.None bytes m s;
  few = model_few meta (form_of bytes) bytes m s;
}
