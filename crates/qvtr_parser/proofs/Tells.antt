-- What is told of a script is so.
use Rattle.std.proofs.Common.{◌≡◌, ap, ℕ, ◌≤◌, List, length, Result, Ok, Err, sym, refl, subst, arith}
use Rattle.ql_lex.specs.Lexed.{Lexeme, LexedText}
use Rattle.qv_syntax.specs.declared.script.Script.{Script}
use Rattle.ocl_parser.specs.Places.{place_of}
use Rattle.ocl_parser.specs.Readings.{Read}
use Rattle.ocl_parser.specs.declared.error.ParseError.{ParseError}
use Rattle.ocl_parser.specs.declared.error.ParseError.TheVariants as errors
use Rattle.ocl_parser.specs.declared.halt.Stop.TheVariants as stops
use Rattle.qvtr_parser.specs.Answers.{Answers, Tells}
use Rattle.qvtr_parser.specs.Beginnings.{IsRefused, IsTooDeep}
use Rattle.qvtr_parser.specs.Grammar.{IsScriptWithin}
use Rattle.qvtr_parser.specs.ScriptReadings.{script_read}
use Rattle.qvtr_parser.proofs.Found.{script_found}
use Rattle.qvtr_parser.proofs.Told.{number_of}
use Rattle.qvtr_parser.proofs.ToldLists.{ends_at}
use Rattle.qvtr_parser.proofs.Refused.{deep_opens, deep_refuses, stuck_none, stuck_refuses, stuck_within}
use Rattle.qvtr_parser.proofs.Begun.{deep_begins, read_shallow, stuck_begins}

stuck_refused : (ts : List Lexeme) (n k : ℕ) → 3 ≤ n → script_read ts n ≡ Err (stops.Stuck k) → IsRefused ts n k
stuck_refused ts n k some e =
    let here : number_of ends_at (script_read ts n) ≡ k = ap (number_of ends_at) e in
    let within : k ≤ length ts = stuck_within ts n k e in
    record {
      within = within;
      none = stuck_none ts n k e;
      begins = stuck_begins ts n k within e;
      refused = stuck_refuses ts n k e;
      shallow = read_shallow ts n k some (omega (arith, here));
    }

deep_too_deep : (ts : List Lexeme) (n k : ℕ) → 3 ≤ n → script_read ts n ≡ Err (stops.Deep k) → IsTooDeep ts n k
deep_too_deep ts n k some e =
    let here : number_of ends_at (script_read ts n) ≡ k = ap (number_of ends_at) e in
    record {
      opens = deep_opens ts n k e;
      begins = deep_begins ts n k e;
      deep = deep_refuses ts n k e;
      first = read_shallow ts n k some (omega (arith, here));
    }

abbrev result_ok : Script → Result Script ParseError
result_ok s = Ok s

abbrev result_err : ParseError → Result Script ParseError
result_err e = Err e

same_script : (s t : Script) → result_ok s ≡ result_ok t → s ≡ t
same_script s t h = cc

same_place : (i j : ℕ) → result_err (errors.Parse i) ≡ result_err (errors.Parse j) → i ≡ j
same_place i j h = cc

same_limit : (i j : ℕ) → result_err (errors.Limit i) ≡ result_err (errors.Limit j) → i ≡ j
same_limit i j h = cc

pub answer_tells : (text : LexedText) (levels : ℕ) → 3 ≤ levels → (result : Result Script ParseError) → Answers text (script_read text.lexemes levels) result → Tells text levels result
answer_tells text levels some result a = by (script_read text.lexemes levels) refl result a
  where
    by : (m : Read Script) → script_read text.lexemes levels ≡ m → (result : Result Script ParseError) → Answers text m result → Tells text levels result
    by (Ok x) e (Ok s) h = subst (λ (y : Script). IsScriptWithin text.lexemes levels y) (same_script x.0 s h) (script_found text.lexemes levels x e)
    by (Ok x) e (Err (errors.Parse at)) h = cc
    by (Ok x) e (Err (errors.Limit at)) h = cc
    by (Ok x) e (Err errors.NoMemory) h = tt
    by (Err (stops.Stuck k)) e (Ok s) h = cc
    by (Err (stops.Stuck k)) e (Err (errors.Parse at)) h = (k, stuck_refused text.lexemes levels k some e, sym (same_place (place_of text k) at h))
    by (Err (stops.Stuck k)) e (Err (errors.Limit at)) h = cc
    by (Err (stops.Stuck k)) e (Err errors.NoMemory) h = tt
    by (Err (stops.Deep k)) e (Ok s) h = cc
    by (Err (stops.Deep k)) e (Err (errors.Parse at)) h = cc
    by (Err (stops.Deep k)) e (Err (errors.Limit at)) h = (k, deep_too_deep text.lexemes levels k some e, sym (same_limit (place_of text k) at h))
    by (Err (stops.Deep k)) e (Err errors.NoMemory) h = tt
