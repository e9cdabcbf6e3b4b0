-- Where a text stops being whole characters, seen from a form at its front.
use Rattle.std.specs.Prelude.{◌≡◌, ◌<◌, ℕ, List, take, Result, Ok, Err}
use Rattle.std.specs.Str.{IsUtf8, IsValidUpTo}
use Rattle.ql_lex.specs.declared.fault.LexFault.{LexFault}
use Rattle.ql_lex.specs.declared.fault.LexError.{LexError}
use Rattle.ql_lex.specs.declared.fault.LexError.TheVariants as errors
use Rattle.ql_lex.specs.declared.fault.LexKind.TheVariants.{BadUtf8}
use Rattle.ql_lex.specs.declared.piece.Piece.{Piece}

-- no character lies over this place: what is whole up to a place behind it is whole up to it
abbrev pub IsCut : List ℕ → ℕ → Type 0
IsCut bytes n = (m : ℕ) → n < m → IsUtf8 (take m bytes) → IsUtf8 (take n bytes)

-- a byte at which no whole character stands is told at the first such byte of these bytes
abbrev pub IsUtf8Place : List ℕ → LexFault → Type 0
IsUtf8Place bytes f = f.kind ≡ BadUtf8 → IsValidUpTo bytes f.at

-- a form ends, or its fault stands, where no character lies
abbrev pub EndsClean : List ℕ → Result Piece LexFault → Type 0
EndsClean bytes (Ok piece) = IsCut bytes piece.len
EndsClean bytes (Err f) = IsCut bytes f.at × IsUtf8Place bytes f

-- the same of what `lex` answers: the bytes before the place are the longest front of the text that is UTF-8
abbrev pub IsMalformedAt : List ℕ → LexError → Type 0
IsMalformedAt bytes (errors.Fault f) = IsUtf8Place bytes f
IsMalformedAt bytes errors.NoMemory = Unit {0}
