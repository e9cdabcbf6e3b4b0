-- What the text of a script is (QVT 1.3, section 7.13, the concrete syntax): the script that its tokens spell, or the fault that is told
-- of it.
use Rattle.std.specs.Prelude.{◌≡◌, ◌≢◌, ℕ, List, length, Err}
use Rattle.ocl_parser.specs.declared.limits.TheConstants.{MAX_NESTING}
use Rattle.ocl_parser.specs.declared.error.ParseError.TheVariants as parser
use Rattle.ql_lex.specs.Lexed.{Lexeme, LexedText, lexed}
use Rattle.ql_lex.specs.Tokens.{IsLexed}
use Rattle.qv_syntax.specs.declared.script.Script.{Script}
use Rattle.qvtr_parser.specs.Answers.{Tells}
use Rattle.qvtr_parser.specs.Grammar.{IsScript}
use Rattle.script_files.specs.declared.error.ScriptError.{ScriptError}
use Rattle.script_files.specs.declared.error.ScriptError.TheVariants as errors

-- the text has tokens, and all of them are this script
pub record SpellsScript (bytes : List ℕ) (script : Script) : Type 0 where
  pub lexemes : List Lexeme
  pub tokens : IsLexed bytes lexemes
  pub spelled : IsScript lexemes script

-- The error is told of the tokens of a text. A fault of the grammar stands at the first token with which no script goes on, or at the end
-- of the text; one of nesting at the first that opens a level past the last.
abbrev pub IsParserError : LexedText → ScriptError → Type 0
IsParserError text (errors.Tokens fault) = ⊥
IsParserError text (errors.Parse at) = Tells text MAX_NESTING (Err (parser.Parse at))
IsParserError text (errors.Limit at) = Tells text MAX_NESTING (Err (parser.Limit at))
IsParserError text errors.NoMemory = Unit {0}

-- the text has tokens, and the error is told of them
pub record IsUnparsed (bytes : List ℕ) (e : ScriptError) : Type 0 where
  pub lexemes : List Lexeme
  pub tokens : IsLexed bytes lexemes
  pub told : IsParserError (record { lexemes = lexemes; end = length bytes }) e

-- the error is the one that is told of the text: the first fault of its tokens comes before those of the grammar
abbrev pub IsScriptError : List ℕ → ScriptError → Type 0
IsScriptError bytes (errors.Tokens fault) = lexed bytes ≡ Err fault
IsScriptError bytes (errors.Parse at) = IsUnparsed bytes (errors.Parse at)
IsScriptError bytes (errors.Limit at) = IsUnparsed bytes (errors.Limit at)
IsScriptError bytes errors.NoMemory = Unit {0}

-- want of memory isn't told of a text
abbrev pub IsTold : ScriptError → Type 0
IsTold e = e ≢ errors.NoMemory
