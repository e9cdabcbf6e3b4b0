-- The file at a path is one script, or one reply says why it isn't.
use Rattle.std.proofs.Common.{◌≡◌, ◌⊎◌, inl, inr, ℕ, ◌<◌, ◌≤◌, Bool, true, false, List, length, refl, sym, ◌∙◌, ap, subst, arith, Option, Some, None}
use Rattle.std.specs.Prelude.{nat_lt}
use Rattle.std.proofs.lemmas.Bool.Decides.{nat_tests}
use Rattle.std.specs.FinMap.{get}
use Rattle.vault_io.specs.Files.{Files}
use Rattle.ql_lex.specs.declared.limits.TheConstants.{MAX_SCRIPT}
use Rattle.qv_syntax.specs.declared.script.Script.{Script}
use Rattle.script_files.specs.declared.error.ScriptError.{ScriptError}
use Rattle.script_files.specs.ScriptErrors.{is_limit}
use Rattle.script_files.specs.Scripts.{SpellsScript, IsScriptError, IsTold}
use Rattle.script_files.specs.ScriptTexts.{script_text}
use Rattle.script_files.proofs.ScriptLaws.{one_script, no_error, one_error, each_told}
use Rattle.qvtr_engine.specs.FileStops.{HasFile}
use Rattle.qvtr_engine.specs.Reply.{Reply, unread, faulty, too_long}
use Rattle.qvtr_engine.specs.ScriptFile.{HasShortScript, IsScriptAt, IsMisspelled, misspelled, ScriptStops, absent, lengthy, refused}
use Rattle.qvtr_engine.proofs.ConvertAnswerLaws.{one_file, no_file}

not_lengthy : (files : Files) (path a b : List ℕ) → HasFile files path a → MAX_SCRIPT < length a → HasShortScript files path b → ⊥
not_lengthy files path a b x l y =
    let less : length b ≤ MAX_SCRIPT = y.short in
    let more : MAX_SCRIPT < length b = subst (λ z. MAX_SCRIPT < length z) (one_file files path a b x y.file) l in omega (arith, less, more)

pub one_script_at : (files : Files) (path : List ℕ) (s t : Script) → IsScriptAt files path s → IsScriptAt files path t → s ≡ t
one_script_at files path s t (a, h, x) (b, k, y) = one_script a s t x (subst (λ z. SpellsScript z t) (one_file files path b a k.file h.file) y)

not_misspelled : (path bytes : List ℕ) (s : Script) (reply : Reply) → SpellsScript bytes s → IsMisspelled path bytes reply → ⊥
not_misspelled path bytes s reply x (misspelled e told y) = no_error bytes s e x y told

pub script_goes_on : (files : Files) (path : List ℕ) (s : Script) (reply : Reply) → IsScriptAt files path s → ScriptStops files path reply → ⊥
script_goes_on files path s reply (a, h, x) (absent e) = no_file a (sym e ∙ h.file)
script_goes_on files path s reply (a, h, x) (lengthy b y l) = not_lengthy files path b a y l h
script_goes_on files path s reply (a, h, x) (refused b k r y) =
    not_misspelled path a s r x (subst (λ z. IsMisspelled path z r) (one_file files path b a k.file h.file) y)

same_error : (path : List ℕ) (e f : ScriptError) → e ≡ f → faulty (is_limit e) (script_text path e) ≡ faulty (is_limit f) (script_text path f)
same_error path e f is = ap (λ (x : ScriptError). faulty (is_limit x) (script_text path x)) is

one_misspelling : (path bytes : List ℕ) (reply other : Reply) → IsMisspelled path bytes reply → IsMisspelled path bytes other → reply ≡ other
one_misspelling path bytes reply other (misspelled e told x) (misspelled f also y) = same_error path e f (one_error bytes e f told also x y)

pub one_script_stop : (files : Files) (path : List ℕ) (reply other : Reply) → ScriptStops files path reply → ScriptStops files path other → reply ≡ other
one_script_stop files path reply other (absent e) (absent f) = refl
one_script_stop files path reply other (absent e) (lengthy b y l) = absurd (no_file b (sym e ∙ y))
one_script_stop files path reply other (absent e) (refused b k o y) = absurd (no_file b (sym e ∙ k.file))
one_script_stop files path reply other (lengthy a x l) (absent f) = absurd (no_file a (sym f ∙ x))
one_script_stop files path reply other (lengthy a x l) (lengthy b y m) = refl
one_script_stop files path reply other (lengthy a x l) (refused b k o y) = absurd (not_lengthy files path a b x l k)
one_script_stop files path reply other (refused a h r x) (absent f) = absurd (no_file a (sym f ∙ h.file))
one_script_stop files path reply other (refused a h r x) (lengthy b y l) = absurd (not_lengthy files path b a y l h)
one_script_stop files path reply other (refused a h r x) (refused b k o y) =
    one_misspelling path a r o x (subst (λ z. IsMisspelled path z o) (one_file files path b a k.file h.file) y)

-- the file is a script, or stops the work
abbrev IsEither : Files → List ℕ → Type 0
IsEither files path = ((s : Script) × IsScriptAt files path s) ⊎ ((reply : Reply) × ScriptStops files path reply)

of_bytes : (files : Files) (path bytes : List ℕ) → HasShortScript files path bytes
    → ((s : Script) × SpellsScript bytes s) ⊎ ((e : ScriptError) × IsTold e × IsScriptError bytes e) → IsEither files path
of_bytes files path bytes h (inl (s, x)) = inl (s, (bytes, h, x))
of_bytes files path bytes h (inr (e, told, x)) =
    inr (faulty (is_limit e) (script_text path e), refused bytes h (faulty (is_limit e) (script_text path e)) (misspelled e told x))

of_length : (files : Files) (path bytes : List ℕ) → HasFile files path bytes → (b : Bool) → nat_lt MAX_SCRIPT (length bytes) ≡ b → IsEither files path
of_length files path bytes h true e =
    let more : MAX_SCRIPT < length bytes = grind (arith, nat_tests) in inr (too_long path, lengthy bytes h more)
of_length files path bytes h false e =
    let short : length bytes ≤ MAX_SCRIPT = grind (arith, nat_tests) in of_bytes files path bytes (record { file = h; short = short }) (each_told bytes)

of_file : (files : Files) (path : List ℕ) (o : Option (List ℕ)) → get files path ≡ o → IsEither files path
of_file files path None e = inr (unread path, absent e)
of_file files path (Some bytes) e = of_length files path bytes e (nat_lt MAX_SCRIPT (length bytes)) refl

pub script_or_stop : (files : Files) (path : List ℕ) → IsEither files path
script_or_stop files path = of_file files path (get files path) refl
