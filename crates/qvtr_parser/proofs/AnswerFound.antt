-- What is answered of a script is spelled.
use Rattle.std.proofs.Common.{◌≡◌, ℕ, Result, Ok, Err, refl, subst}
use Rattle.std.specs.Prelude.{IfOk}
use Rattle.ql_lex.specs.Lexed.{LexedText}
use Rattle.qv_syntax.specs.declared.script.Script.{Script}
use Rattle.ocl_parser.specs.Readings.{Read}
use Rattle.ocl_parser.specs.declared.error.ParseError.{ParseError}
use Rattle.ocl_parser.specs.declared.halt.Stop.TheVariants as stops
use Rattle.qvtr_parser.specs.Answers.{Answers, result_of}
use Rattle.qvtr_parser.specs.Grammar.{IsScriptWithin}
use Rattle.qvtr_parser.specs.ScriptReadings.{script_read}
use Rattle.qvtr_parser.proofs.Found.{script_found}

-- what is answered is spelled by all tokens
pub answered_found : (text : LexedText) (levels : ℕ) (result : Result Script ParseError) → Answers text (script_read text.lexemes levels) result
    → IfOk result (λ s. IsScriptWithin text.lexemes levels s)
answered_found text levels (Ok s) a = by (script_read text.lexemes levels) refl a
  where
    by : (m : Read Script) → script_read text.lexemes levels ≡ m → result_of text m ≡ Ok s → IsScriptWithin text.lexemes levels s
    by (Ok x) r b =
        let same : x.0 ≡ s = cc in
        subst (λ (y : Script). IsScriptWithin text.lexemes levels y) same (script_found text.lexemes levels x r)
    by (Err (stops.Stuck k)) r b = cc
    by (Err (stops.Deep k)) r b = cc
answered_found text levels (Err error) a = tt
