-- A conversion has at most one reply.
use Rattle.std.proofs.Common.{◌≡◌, ℕ, ◌<◌, ◌≤◌, List, length, refl, sym, ◌∙◌, ap, subst, arith, Some, None}
use Rattle.vault_io.specs.Files.{Files}
use Rattle.mof_metamodel.specs.declared.desc.MetaDesc.{MetaDesc}
use Rattle.qvtr_engine.specs.declared.limits.TheConstants.{MAX_FILE}
use Rattle.object_tables.specs.Models.{ModelData}
use Rattle.model_assembly.specs.declared.fault.Externs.TheVariants as externs
use Rattle.model_files.specs.declared.fault.FileError.{FileError}
use Rattle.model_files.specs.FaultTexts.{is_limit, error_text}
use Rattle.model_files.specs.Emof.{emof}
use Rattle.model_files.specs.Files.{FileSpells, IsFileError, IsTold, MetaSpells, IsMetaFileError}
use Rattle.qvtr_engine.specs.ConvertAnswer.{ConvertAnswer, IsConverted, IsMetamodelAt, IsModelAt, text_in, metamodel_stops, model_stops, output_long, put}
use Rattle.qvtr_engine.specs.ConvertWords.{ConvertWords}
use Rattle.qvtr_engine.specs.FileStops.{HasFile, HasShortFile, Unloaded, missing, long, Stops, unloaded, misread}
use Rattle.qvtr_engine.specs.Reply.{Reply, faulty, converted}
use Rattle.qvtr_engine.proofs.FileLaws.{one_model, one_meta, no_error, no_error_of_meta, one_told, one_told_of_meta, described_well}

-- ---- a path has one file

some_same : (a b : List ℕ) → Some a ≡ Some b → a ≡ b
some_same a b e = cc

pub no_file : (a : List ℕ) → None ≡ Some a → ⊥
no_file a e = cc

pub one_file : (files : Files) (path a b : List ℕ) → HasFile files path a → HasFile files path b → a ≡ b
one_file files path a b x y = some_same a b (sym x ∙ y)

not_long : (files : Files) (path a b : List ℕ) → HasFile files path a → MAX_FILE < length a → HasShortFile files path b → ⊥
not_long files path a b x l y =
    let less : length b ≤ MAX_FILE = y.short in
    let more : MAX_FILE < length b = subst (λ z. MAX_FILE < length z) (one_file files path a b x y.file) l in omega (arith, less, more)

-- ---- what stops at a file

-- one error is told of bytes
abbrev HasOne : (List ℕ → FileError → Type 0) → Type 0
HasOne IsError = (bytes : List ℕ) (e f : FileError) → IsTold e → IsTold f → IsError bytes e → IsError bytes f → e ≡ f

unloaded_single : (files : Files) (path : List ℕ) (reply other : Reply) → Unloaded files path reply → Unloaded files path other → reply ≡ other
unloaded_single files path reply other (missing e) (missing f) = refl
unloaded_single files path reply other (missing e) (long b y m) = absurd (no_file b (sym e ∙ y))
unloaded_single files path reply other (long a x l) (missing f) = absurd (no_file a (sym f ∙ x))
unloaded_single files path reply other (long a x l) (long b y m) = refl

not_unloaded : (files : Files) (path bytes : List ℕ) (reply : Reply) → HasShortFile files path bytes → Unloaded files path reply → ⊥
not_unloaded files path bytes reply h (missing e) = no_file bytes (sym e ∙ h.file)
not_unloaded files path bytes reply h (long a x l) = not_long files path a bytes x l h

pub stops_single : (files : Files) (path : List ℕ) (meta : MetaDesc) (IsError : List ℕ → FileError → Type 0) (reply other : Reply) → HasOne IsError
    → Stops files path meta IsError reply → Stops files path meta IsError other → reply ≡ other
stops_single files path meta IsError reply other one (unloaded r x) (unloaded o y) = unloaded_single files path r o x y
stops_single files path meta IsError reply other one (unloaded r x) (misread bytes h e t y) = absurd (not_unloaded files path bytes r h x)
stops_single files path meta IsError reply other one (misread bytes h e t y) (unloaded o x) = absurd (not_unloaded files path bytes o h x)
stops_single files path meta IsError reply other one (misread a h e t x) (misread b k f u y) =
    let there : IsError a f = subst (λ z. IsError z f) (one_file files path b a k.file h.file) y in
    ap (λ error. faulty (is_limit error) (error_text meta path error)) (one a e f t u x there)

-- bytes of which no error is told stop nothing
no_stop : (files : Files) (path bytes : List ℕ) (meta : MetaDesc) (IsError : List ℕ → FileError → Type 0) (reply : Reply) → HasShortFile files path bytes
    → ((e : FileError) → IsTold e → IsError bytes e → ⊥) → Stops files path meta IsError reply → ⊥
no_stop files path bytes meta IsError reply h none (unloaded r x) = not_unloaded files path bytes r h x
no_stop files path bytes meta IsError reply h none (misread b k e t y) =
    none e t (subst (λ z. IsError z e) (one_file files path b bytes k.file h.file) y)

pub metamodel_goes_on : (files : Files) (path : List ℕ) (meta : MetaDesc) (reply : Reply) → IsMetamodelAt files path meta → Stops files path emof IsMetaFileError reply → ⊥
metamodel_goes_on files path meta reply (bytes, h, reads) st =
    no_stop files path bytes emof IsMetaFileError reply h (λ e t x. no_error_of_meta bytes meta e reads t x) st

pub model_goes_on : (files : Files) (path : List ℕ) (meta : MetaDesc) (m : ModelData) (reply : Reply) → IsModelAt files path meta m
    → Stops files path meta (IsFileError meta externs.None) reply → ⊥
model_goes_on files path meta m reply (bytes, h, reads) st =
    no_stop files path bytes meta (IsFileError meta externs.None) reply h (λ e t x. no_error meta externs.None bytes m e reads t x) st

-- ---- a path has one metamodel, and one model

pub one_metamodel_at : (files : Files) (path : List ℕ) (a b : MetaDesc) → IsMetamodelAt files path a → IsMetamodelAt files path b → a ≡ b
one_metamodel_at files path a b (c, h, x) (d, k, y) =
    one_meta c a b x (subst (λ z. MetaSpells z b) (one_file files path d c k.file h.file) y)

pub one_model_at : (files : Files) (path : List ℕ) (meta : MetaDesc) (a b : ModelData) → IsModelAt files path meta a → IsModelAt files path meta b → a ≡ b
one_model_at files path meta a b (c, h, x) (d, k, y) =
    one_model meta externs.None c a b x (subst (λ z. FileSpells meta externs.None z b) (one_file files path d c k.file h.file) y)

one_converted : (files : Files) (c : ConvertWords) (a b : ModelData) → IsConverted files c a → IsConverted files c b → a ≡ b
one_converted files c a b x y =
    one_model_at files c.model x.meta a b x.model
    (subst (λ meta. IsModelAt files c.model meta b) (one_metamodel_at files c.metamodel y.meta x.meta y.metamodel x.metamodel) y.model)

stops_at_model : (files : Files) (c : ConvertWords) (meta : MetaDesc) (m : ModelData) (reply : Reply) → IsMetamodelAt files c.metamodel meta
    → Stops files c.model meta (IsFileError meta externs.None) reply → IsConverted files c m → ⊥
stops_at_model files c meta m reply at st named =
    model_goes_on files c.model meta m reply
    (subst (λ d. IsModelAt files c.model d m) (one_metamodel_at files c.metamodel named.meta meta named.metamodel at) named.model) st

one_text : (files : Files) (c : ConvertWords) (a b : ModelData) → IsConverted files c a → IsConverted files c b → text_in c.form a ≡ text_in c.form b
one_text files c a b x y = ap (text_in c.form) (one_converted files c a b x y)

both_lengths : (files : Files) (c : ConvertWords) (a b : ModelData) → IsConverted files c a → MAX_FILE < length (text_in c.form a)
    → IsConverted files c b → length (text_in c.form b) ≤ MAX_FILE → ⊥
both_lengths files c a b x l y m =
    let more : MAX_FILE < length (text_in c.form b) = subst (λ z. MAX_FILE < length z) (one_text files c a b x y) l in omega (arith, more, m)

-- ---- the reply

pub convert_answer_single : (files : Files) (c : ConvertWords) (reply other : Reply) → ConvertAnswer files c reply → ConvertAnswer files c other → reply ≡ other
convert_answer_single files c reply other (metamodel_stops r x) (metamodel_stops o y) =
    stops_single files c.metamodel emof IsMetaFileError r o one_told_of_meta x y
convert_answer_single files c reply other (metamodel_stops r x) (model_stops meta at o y) = absurd (metamodel_goes_on files c.metamodel meta r at x)
convert_answer_single files c reply other (metamodel_stops r x) (output_long m named l) = absurd (metamodel_goes_on files c.metamodel named.meta r named.metamodel x)
convert_answer_single files c reply other (metamodel_stops r x) (put m named l) = absurd (metamodel_goes_on files c.metamodel named.meta r named.metamodel x)
convert_answer_single files c reply other (model_stops meta at r x) (metamodel_stops o y) = absurd (metamodel_goes_on files c.metamodel meta o at y)
convert_answer_single files c reply other (model_stops meta at r x) (model_stops desc there o y) =
    stops_single files c.model meta (IsFileError meta externs.None) r o (λ bytes. one_told meta externs.None bytes (described_well (at.0) meta at.2)) x
    (subst (λ d. Stops files c.model d (IsFileError d externs.None) o) (one_metamodel_at files c.metamodel desc meta there at) y)
convert_answer_single files c reply other (model_stops meta at r x) (output_long m named l) = absurd (stops_at_model files c meta m r at x named)
convert_answer_single files c reply other (model_stops meta at r x) (put m named l) = absurd (stops_at_model files c meta m r at x named)
convert_answer_single files c reply other (output_long m named l) (metamodel_stops o y) = absurd (metamodel_goes_on files c.metamodel named.meta o named.metamodel y)
convert_answer_single files c reply other (output_long m named l) (model_stops meta at o y) = absurd (stops_at_model files c meta m o at y named)
convert_answer_single files c reply other (output_long m named l) (output_long k also n) = refl
convert_answer_single files c reply other (output_long m named l) (put k also n) = absurd (both_lengths files c m k named l also n)
convert_answer_single files c reply other (put m named l) (metamodel_stops o y) = absurd (metamodel_goes_on files c.metamodel named.meta o named.metamodel y)
convert_answer_single files c reply other (put m named l) (model_stops meta at o y) = absurd (stops_at_model files c meta m o at y named)
convert_answer_single files c reply other (put m named l) (output_long k also n) = absurd (both_lengths files c k m also n named l)
convert_answer_single files c reply other (put m named l) (put k also n) = ap (λ text. converted c.output text) (one_text files c m k named also)
