-- The tokens of a script by counting the bytes of its forms, or its first fault.
use Rattle.std.specs.Prelude.{◌≡◌, ◌<◌, ◌≤◌, ℕ, zero, suc, ◌+◌, ◌-◌, if◌then◌else◌, nat_lt, nat_eq, List, [], ◌∷◌, ◌++◌, length, take, drop, slice_range, Result, Ok, Err}
use Rattle.std.specs.List.{starts_with}
use Rattle.std.specs.Option.{option_map_or}
use Rattle.ql_lex.specs.declared.limits.TheConstants.{MAX_SCRIPT}
use Rattle.ql_lex.specs.declared.token.Token.{Token}
use Rattle.ql_lex.specs.declared.fault.LexKind.TheVariants.{Limit}
use Rattle.ql_lex.specs.declared.fault.LexFault.{LexFault}
use Rattle.ql_lex.specs.declared.piece.Piece.{Piece}
use Rattle.ql_lex.specs.Forms.{whole_form}

-- a token and its text
pub record Lexeme : Type 0 where
  pub token : Token
  pub text : List ℕ

-- what contracts see as `Tokens`: the tokens in order, and the number of bytes of the text
pub record LexedText : Type 0 where
  pub lexemes : List Lexeme
  pub end : ℕ

-- the token that a piece at the front of these bytes makes; they stand at this place of the text
abbrev pub lexemes_of : ℕ → List ℕ → Piece → List Lexeme
lexemes_of at bytes piece = option_map_or
    (λ kind. record { token = record { kind = kind; span = record { start = at; end = at + piece.len } }; text = take piece.len bytes } ∷ [])
    piece.kind []

-- tokens, and then those behind them
abbrev pub with_front : List Lexeme → Result (List Lexeme) LexFault → Result (List Lexeme) LexFault
with_front front (Ok more) = Ok (front ++ more)
with_front front (Err f) = Err f

-- a fault's place, counted from the start of the text
abbrev pub moved : ℕ → LexFault → LexFault
moved at f = record { kind = f.kind; at = at + f.at }

-- the tokens of the bytes from this place on, or the first fault; inside: so many bytes of the last piece are still to come
unfoldable pub lexed_from : List ℕ → ℕ → ℕ → Result (List Lexeme) LexFault
lexed_from [] at inside = Ok []
lexed_from (b ∷ bs) at (suc inside) = lexed_from bs (at + 1) inside
lexed_from (b ∷ bs) at zero = elim (whole_form (b ∷ bs)) [
  | Ok piece ↦ with_front (lexemes_of at (b ∷ bs) piece) (lexed_from bs (at + 1) (piece.len - 1))
  | Err f ↦ Err (moved at f)
]

-- the number of bytes of a byte order mark at the front
unfoldable pub mark_len : List ℕ → ℕ
mark_len bytes = if starts_with nat_eq bytes (0xEF ∷ 0xBB ∷ 0xBF ∷ []) then 3 else 0

-- the tokens of a text, or its fault
unfoldable pub lexed : List ℕ → Result (List Lexeme) LexFault
lexed bytes = if nat_lt MAX_SCRIPT (length bytes) then Err (record { kind = Limit; at = MAX_SCRIPT })
    else lexed_from (drop (mark_len bytes) bytes) (mark_len bytes) 0

-- the tokens lie in order between two places of the text, none over another, and the text of each is what stands at its span
abbrev pub AreSlices : List ℕ → ℕ → List Lexeme → ℕ → Type 0
AreSlices bytes from [] to = from ≤ to
AreSlices bytes from (l ∷ ls) to = (from ≤ l.token.span.start) × (l.token.span.start < l.token.span.end)
    × (l.text ≡ slice_range bytes l.token.span.start l.token.span.end) × AreSlices bytes l.token.span.end ls to
