-- The steps of a conversion, against the answer.
use Rattle.std.proofs.Common.{◌≡◌, ℕ, ◌<◌, ◌≤◌, List, [], ◌∷◌, length, refl, sym, subst, Option, Some, None, Result, Ok, Err}
use Rattle.std.specs.Prelude.{IfSome, IfOk}
use Rattle.mof_metamodel.specs.declared.desc.MetaDesc.{MetaDesc}
use Rattle.qvtr_engine.specs.declared.limits.TheConstants.{MAX_FILE}
use Rattle.vault_io.specs.Counts.{Rose}
use Rattle.vault_io.specs.Files.{Files}
use Rattle.model_assembly.specs.declared.fault.Externs.TheVariants as externs
use Rattle.model_files.specs.declared.file_form.Form.{Form}
use Rattle.model_files.specs.Emof.{emof}
use Rattle.model_files.specs.Files.{IsFileError, IsMetaFileError}
use Rattle.qvtr_engine.specs.declared.converting.Conversion.{Conversion}
use Rattle.qvtr_engine.specs.declared.outcome.Stop.{Stop}
use Rattle.qvtr_engine.specs.declared.outcome.Stop.TheVariants as stop
use Rattle.qvtr_engine.specs.declared.status.Status.{Status}
use Rattle.qvtr_engine.specs.declared.status.Status.TheVariants.{Fault}
use Rattle.qvtr_engine.specs.ConvertAnswer.{ConvertAnswer, IsMetamodelAt, metamodel_stops, model_stops, output_long, put}
use Rattle.qvtr_engine.specs.ConvertWords.{ConvertWords, convert_paths}
use Rattle.qvtr_engine.specs.Converting.{IsDuePut, IsShort, IsTextAt, IsTooLong, IsWritten}
use Rattle.qvtr_engine.specs.Command.{converts}
use Rattle.qvtr_engine.specs.CommandEnds.{CommandEnds, put_done, put_failed, IsPutBy}
use Rattle.qvtr_engine.specs.Putting.{PutEnds, put_well, put_badly}
use Rattle.qvtr_engine.specs.FileStops.{HasShortFile, Stops}
use Rattle.qvtr_engine.specs.Outcome.{Finishes}
use Rattle.qvtr_engine.specs.Reply.{Reply, too_long, converted, done_text, fault_text}
use Rattle.qvtr_engine.specs.Stops.{StoppedBy}
use Rattle.qvtr_engine.proofs.StopLaws.{rose_from, among_front, among_middle, among_third, stopped_wider}

-- ---- the text that is put

pub text_found : (told : Option Files) (path bytes : List ℕ) (meta : MetaDesc) (form : Form) (text : List ℕ) → IfSome told (λ files. HasShortFile files path bytes)
    → IsWritten meta bytes form text → IfSome told (λ files. IsTextAt files path meta form text)
text_found None path bytes meta form text h w = tt
text_found (Some files) path bytes meta form text h w = (w.0, (bytes, h, w.1), w.2)

pub text_ok : (r : Result (List ℕ) Stop) (told : Option Files) (path bytes : List ℕ) (meta : MetaDesc) (form : Form) → IfSome told (λ files. HasShortFile files path bytes)
    → IfOk r (IsWritten meta bytes form) → IfOk r (λ text. IfSome told (λ files. IsTextAt files path meta form text))
text_ok (Ok text) told path bytes meta form h w = text_found told path bytes meta form text h w
text_ok (Err s) told path bytes meta form h w = tt

-- ---- the answer

metamodel_reply : (told : Option Files) (c : ConvertWords)
    → IfSome told (λ files. (reply : Reply) → Stops files c.metamodel emof IsMetaFileError reply → ConvertAnswer files c reply)
metamodel_reply None c = tt
metamodel_reply (Some files) c = metamodel_stops

pub metamodel_stopped : (s : Stop) (told : Option Files) (c : ConvertWords) (faulted : Type 0)
    → StoppedBy s told (λ files. Stops files c.metamodel emof IsMetaFileError) faulted (c.metamodel ∷ [])
    → StoppedBy s told (λ files. ConvertAnswer files c) faulted (convert_paths c)
metamodel_stopped s told c f st =
    stopped_wider s told _ _ f f (c.metamodel ∷ []) (convert_paths c) (metamodel_reply told c) (λ x. x) (among_front c.metamodel (c.model ∷ c.output ∷ [])) st

model_reply : (told : Option Files) (c : ConvertWords) (meta : MetaDesc) → IfSome told (λ files. IsMetamodelAt files c.metamodel meta)
    → IfSome told (λ files. (reply : Reply) → Stops files c.model meta (IsFileError meta externs.None) reply → ConvertAnswer files c reply)
model_reply None c meta at = tt
model_reply (Some files) c meta at = model_stops meta at

pub model_stopped : (s : Stop) (told : Option Files) (c : ConvertWords) (meta : MetaDesc) (before mid after : ℕ) → before ≤ mid
    → IfSome told (λ files. IsMetamodelAt files c.metamodel meta)
    → StoppedBy s told (λ files. Stops files c.model meta (IsFileError meta externs.None)) (Rose mid after) (c.model ∷ [])
    → StoppedBy s told (λ files. ConvertAnswer files c) (Rose before after) (convert_paths c)
model_stopped s told c meta before mid after le at st =
    stopped_wider s told _ _ (Rose mid after) (Rose before after) (c.model ∷ []) (convert_paths c) (model_reply told c meta at) (rose_from before mid after le)
    (among_middle c.metamodel c.model (c.output ∷ [])) st

long_output : (told : Option Files) (c : ConvertWords) (meta : MetaDesc) (text : List ℕ) → IfSome told (λ files. IsMetamodelAt files c.metamodel meta)
    → IfSome told (λ files. IsTextAt files c.model meta c.form text) → MAX_FILE < length text → IfSome told (λ files. ConvertAnswer files c (too_long c.output))
long_output None c meta text at t l = tt
long_output (Some files) c meta text at t l =
    output_long t.0 (record { meta = meta; metamodel = at; model = t.1 }) (subst (λ x. MAX_FILE < length x) t.2 l)

pub output_stopped : (s : Stop) (told : Option Files) (c : ConvertWords) (meta : MetaDesc) (text : List ℕ) (faulted : Type 0)
    → IfSome told (λ files. IsMetamodelAt files c.metamodel meta) → IfSome told (λ files. IsTextAt files c.model meta c.form text) → IsTooLong s c.output text
    → StoppedBy s told (λ files. ConvertAnswer files c) faulted (convert_paths c)
output_stopped (stop.Fault at) told c meta text f m t l = absurd l
output_stopped (stop.TooLong at) told c meta text f m t l =
    subst (λ p. IfSome told (λ files. ConvertAnswer files c (too_long p))) (sym l.0) (long_output told c meta text m t l.1)
output_stopped (stop.Faulty limit line) told c meta text f m t l = absurd l
output_stopped (stop.Refused cause tells) told c meta text f m t l = absurd l
output_stopped stop.NoMemory told c meta text f m t l = tt

put_answer : (files : Files) (c : ConvertWords) (meta : MetaDesc) (text : List ℕ) → IsMetamodelAt files c.metamodel meta → IsTextAt files c.model meta c.form text
    → length text ≤ MAX_FILE → ConvertAnswer files c (converted c.output text)
put_answer files c meta text at t l =
    subst (λ x. ConvertAnswer files c (converted c.output x)) (sym t.2)
    (put t.0 (record { meta = meta; metamodel = at; model = t.1 }) (subst (λ x. length x ≤ MAX_FILE) t.2 l))

due_answer : (told : Option Files) (c : ConvertWords) (meta : MetaDesc) (text : List ℕ) → IfSome told (λ files. IsMetamodelAt files c.metamodel meta)
    → IfSome told (λ files. IsTextAt files c.model meta c.form text) → length text ≤ MAX_FILE → IfSome told (λ files. ConvertAnswer files c (converted c.output text))
due_answer None c meta text at t l = tt
due_answer (Some files) c meta text at t l = put_answer files c meta text at t l

pub due_put : (told : Option Files) (c : ConvertWords) (meta : MetaDesc) (text : List ℕ) (conversion : Conversion) → IfSome told (λ files. IsMetamodelAt files c.metamodel meta)
    → IfSome told (λ files. IsTextAt files c.model meta c.form text) → IsShort c.output text conversion → IsDuePut told c conversion.text
due_put told c meta text conversion at t h =
    subst (IsDuePut told c) (sym h.text_is) (record { answer = due_answer told c meta text at t h.short })

-- ---- the end of a conversion, from that of its put

conversion_put : (c : ConvertWords) (text : List ℕ) → IsPutBy (converts c) (converted c.output text) c.output text
conversion_put c text = record { puts = refl; at = refl; named = among_third c.metamodel c.model c.output; done = refl }

pub put_ended : (told : Option Files) (c : ConvertWords) (conversion : Conversion) (vault_faulted vault_faulted' sink_faulted : Type 0) (before after : Option (List ℕ)) (told_after : Option Files) (result : Status)
    → IsDuePut told c conversion.text → conversion.failure ≡ fault_text c.output → (vault_faulted → vault_faulted')
    → PutEnds told c.output conversion.text done_text conversion.failure vault_faulted sink_faulted before after told_after result
    → CommandEnds told (converts c) vault_faulted' sink_faulted before after told_after result
put_ended told c conversion vf vf' sf before after told_after result due fails t (put_well is f) =
    put_done (converted c.output conversion.text) c.output conversion.text due.answer (conversion_put c conversion.text) is f
put_ended told c conversion vf vf' sf before after told_after result due fails t (put_badly faulted is f) =
    put_failed (converted c.output conversion.text) c.output conversion.text due.answer (conversion_put c conversion.text) (t faulted) is
    (subst (λ x. Finishes Fault x before after sf result) fails f)
