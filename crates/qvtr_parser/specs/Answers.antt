-- What is answered of a script.
use Rattle.std.specs.Prelude.{◌≡◌, ℕ, Result, Ok, Err}
use Rattle.ql_lex.specs.Lexed.{LexedText}
use Rattle.qv_syntax.specs.declared.script.Script.{Script}
use Rattle.ocl_parser.specs.Places.{place_of}
use Rattle.ocl_parser.specs.Readings.{Read}
use Rattle.ocl_parser.specs.declared.error.ParseError.{ParseError}
use Rattle.ocl_parser.specs.declared.error.ParseError.TheVariants as errors
use Rattle.ocl_parser.specs.declared.halt.Stop.TheVariants as stops
use Rattle.qvtr_parser.specs.Beginnings.{IsRefused, IsTooDeep}
use Rattle.qvtr_parser.specs.Grammar.{IsScriptWithin}

-- what a reading answers, with the place of the token at which it stops
abbrev pub result_of : LexedText → Read Script → Result Script ParseError
result_of text (Ok found) = Ok found.0
result_of text (Err (stops.Stuck at)) = Err (errors.Parse (place_of text at))
result_of text (Err (stops.Deep at)) = Err (errors.Limit (place_of text at))

-- this is answered, unless memory could not be had
abbrev pub IsAnswered : Result Script ParseError → Result Script ParseError → Type 0
IsAnswered expected (Err errors.NoMemory) = Unit {0}
IsAnswered expected result = expected ≡ result

-- the answer of a reading
abbrev pub Answers : LexedText → Read Script → Result Script ParseError → Type 0
Answers text read result = IsAnswered (result_of text read) result

-- What is answered is so: the tokens are the script; or they are none, and the token that is told is the first with which none goes on,
-- or the text ends before one is whole; or that token is the first that opens a level past the last.
abbrev pub Tells : LexedText → ℕ → Result Script ParseError → Type 0
Tells text levels (Ok script) = IsScriptWithin text.lexemes levels script
Tells text levels (Err (errors.Parse at)) = (k : ℕ) × IsRefused text.lexemes levels k × (at ≡ place_of text k)
Tells text levels (Err (errors.Limit at)) = (k : ℕ) × IsTooDeep text.lexemes levels k × (at ≡ place_of text k)
Tells text levels (Err errors.NoMemory) = Unit {0}
