-- What the answers of the code stand for.
use Rattle.std.specs.Prelude.{◌≡◌, ℕ, List, map, take, Option, Some, None, IfSome, Result, Ok, Err}
use Rattle.std.specs.Str.{IsUtf8}
use Rattle.ql_lex.specs.declared.word.Word.{Word}
use Rattle.ql_lex.specs.declared.fault.LexFault.{LexFault}
use Rattle.ql_lex.specs.declared.fault.LexError.{LexError}
use Rattle.ql_lex.specs.declared.fault.LexError.TheVariants as errors
use Rattle.ql_lex.specs.Lexed.{Lexeme}

-- a token and its text, without where the text lies in memory
abbrev pub seen : Word → Lexeme
seen word = record { token = word.token; text = word.text.now }

abbrev pub seen_all : List Word → List Lexeme
seen_all words = map seen words

-- the fault that an error holds
abbrev pub fault_of : LexError → Option LexFault
fault_of (errors.Fault f) = Some f
fault_of errors.NoMemory = None

-- the error is the fault that reading ends with, unless memory ran out
abbrev pub Fails : {Y : Type 0} → LexError → Result Y LexFault → Type 0
Fails e read = IfSome (fault_of e) (λ f. read ≡ Err f)

-- the bytes before the fault are whole characters
abbrev pub IsWholeBefore : List ℕ → LexError → Type 0
IsWholeBefore bytes (errors.Fault f) = IsUtf8 (take f.at bytes)
IsWholeBefore bytes errors.NoMemory = Unit {0}
