-- The file of a script that is read, or how it stops the work.
use Rattle.std.proofs.Common.{◌≡◌, ◌⊎◌, inl, inr, ℕ, ◌<◌, ◌≤◌, true, List, [], ◌∷◌, length, refl, Option, Some, None, Result, Ok, Err}
use Rattle.std.specs.Prelude.{IfSome, IsSomeAnd, IfOk, IfErr}
use Rattle.std.specs.FinMap.{get}
use Rattle.ql_lex.specs.declared.limits.TheConstants.{MAX_SCRIPT}
use Rattle.vault_io.specs.Counts.{Rose}
use Rattle.vault_io.specs.Files.{Files, MayFail, OfFile}
use Rattle.qv_syntax.specs.declared.script.Script.{Script}
use Rattle.script_files.specs.Scripts.{SpellsScript}
use Rattle.qvtr_engine.specs.declared.outcome.Stop.{Stop}
use Rattle.qvtr_engine.specs.Names.{is_among}
use Rattle.qvtr_engine.specs.Reply.{Reply, unread, too_long}
use Rattle.qvtr_engine.specs.ScriptFile.{HasShortScript, IsScriptAt, IsMisspelled, ScriptStops, absent, lengthy, refused}
use Rattle.qvtr_engine.specs.Stops.{StoppedBy, OnStop}
use Rattle.qvtr_engine.proofs.StopLaws.{among_first, on_stop_stopped}

-- ---- a file that wasn't loaded

pub script_failed : (told : Option Files) (path : List ℕ) (before after : ℕ) → MayFail told path before after
    → IsSomeAnd told (λ files. ScriptStops files path (unread path)) ⊎ (Rose before after × (is_among (path ∷ []) path ≡ true))
script_failed told path before after (inl rose) = inr (rose, among_first path [])
script_failed None path before after (inr lacks) = absurd lacks
script_failed (Some files) path before after (inr lacks) = inl (absent lacks)

long_script : (files : Files) (path : List ℕ) (o : Option (List ℕ)) → get files path ≡ o → IsSomeAnd o (λ file. MAX_SCRIPT < length file) → ScriptStops files path (too_long path)
long_script files path None e l = absurd l
long_script files path (Some bytes) e l = lengthy bytes e l

pub script_long : (told : Option Files) (path : List ℕ) → OfFile told path (λ file. MAX_SCRIPT < length file) → IfSome told (λ files. ScriptStops files path (too_long path))
script_long None path l = tt
script_long (Some files) path l = long_script files path (get files path) refl l

pub script_loaded : (told : Option Files) (path bytes : List ℕ) → IfSome told (λ files. get files path ≡ Some bytes) → length bytes ≤ MAX_SCRIPT
    → IfSome told (λ files. HasShortScript files path bytes)
script_loaded None path bytes e l = tt
script_loaded (Some files) path bytes e l = record { file = e; short = l }

-- ---- a script, or a stop

script_found : (told : Option Files) (path bytes : List ℕ) (s : Script) → IfSome told (λ files. HasShortScript files path bytes) → SpellsScript bytes s
    → IfSome told (λ files. IsScriptAt files path s)
script_found None path bytes s h x = tt
script_found (Some files) path bytes s h x = (bytes, h, x)

pub script_ok : (r : Result Script Stop) (told : Option Files) (path bytes : List ℕ) → IfSome told (λ files. HasShortScript files path bytes)
    → IfOk r (SpellsScript bytes) → IfOk r (λ s. IfSome told (λ files. IsScriptAt files path s))
script_ok (Ok s) told path bytes h x = script_found told path bytes s h x
script_ok (Err stop) told path bytes h x = tt

refusals : (told : Option Files) (path bytes : List ℕ) → IfSome told (λ files. HasShortScript files path bytes)
    → IfSome told (λ files. (reply : Reply) → IsMisspelled path bytes reply → ScriptStops files path reply)
refusals None path bytes h = tt
refusals (Some files) path bytes h = refused bytes h

pub script_err : (r : Result Script Stop) (told : Option Files) (path bytes : List ℕ) (faulted : Type 0) (paths : List (List ℕ))
    → IfSome told (λ files. HasShortScript files path bytes) → IfErr r (λ s. OnStop s (IsMisspelled path bytes))
    → IfErr r (λ s. StoppedBy s told (λ files. ScriptStops files path) faulted paths)
script_err (Ok s) told path bytes faulted paths h x = tt
script_err (Err stop) told path bytes faulted paths h x =
    on_stop_stopped stop told (IsMisspelled path bytes) (λ files. ScriptStops files path) faulted paths (refusals told path bytes h) x
