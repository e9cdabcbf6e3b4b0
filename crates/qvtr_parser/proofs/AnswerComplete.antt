-- A script is answered.
use Rattle.std.proofs.Common.{ℕ, Result, Ok, subst}
use Rattle.ql_lex.specs.Lexed.{LexedText}
use Rattle.qv_syntax.specs.declared.script.Script.{Script}
use Rattle.ocl_parser.specs.Readings.{Read}
use Rattle.ocl_parser.specs.declared.error.ParseError.{ParseError}
use Rattle.qvtr_parser.specs.Answers.{Answers, IsAnswered}
use Rattle.qvtr_parser.specs.Grammar.{IsScriptWithin}
use Rattle.qvtr_parser.specs.ScriptReadings.{script_read}
use Rattle.qvtr_parser.proofs.CompleteScripts.{script_complete}

-- where the tokens are a script, that one is answered
pub answered_complete : (text : LexedText) (levels : ℕ) (result : Result Script ParseError) → Answers text (script_read text.lexemes levels) result
    → (s : Script) → IsScriptWithin text.lexemes levels s → IsAnswered (Ok s) result
answered_complete text levels result a s spelled =
    subst (λ (m : Read Script). Answers text m result) (script_complete text.lexemes levels s spelled) a
