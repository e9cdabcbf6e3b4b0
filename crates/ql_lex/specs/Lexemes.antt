-- Single tokens: where they stand, and which word, sign, name, string or number each is.
use Rattle.std.specs.Prelude.{ℕ, ◌-◌, Bool, false, ◌&&◌, ◌==◌, if◌then◌else◌, nat_le, List, slice_get, Option, Some, None, pos, ℤ}
use Rattle.std.specs.Option.{option_map_or}
use Rattle.std.specs.List.{list_all}
use Rattle.std.specs.Char.{is_ascii_digit}
use Rattle.std.specs.Str.{bytes_eq, chars}
use Rattle.std.specs.Ordering.{int_eq}
use Rattle.mof_metamodel.specs.Characters.{is_storable_text}
use Rattle.mof_metamodel.specs.declared.span.Span.{Span}
use Rattle.qv_syntax.specs.declared.name.Name.{Name}
use Rattle.ql_lex.specs.declared.token.TokenKind.{TokenKind}
use Rattle.ql_lex.specs.declared.token.TokenKind.TheVariants as kinds
use Rattle.ql_lex.specs.declared.limits.TheConstants.{MAX_INTEGER}
use Rattle.ql_lex.specs.Forms.{decimal}
use Rattle.ql_lex.specs.Lexed.{Lexeme}
use Rattle.ql_lex.specs.Unquoting.{unquoted}

-- ---- places

-- where the token of this number begins
abbrev pub start_of : List Lexeme → ℕ → ℕ
start_of ts at = option_map_or (λ l. l.token.span.start) (slice_get ts at) 0

-- where it ends
abbrev pub end_of : List Lexeme → ℕ → ℕ
end_of ts at = option_map_or (λ l. l.token.span.end) (slice_get ts at) 0

-- from the start of the token of this number to the end of the one before that number
unfoldable pub span_at : List Lexeme → ℕ → ℕ → Span
span_at ts from end = record { start = start_of ts from; end = end_of ts (end - 1) }

abbrev pub is_same_span : Span → Span → Bool
is_same_span a b = (a.start == b.start) && (a.end == b.end)

-- ---- single tokens

abbrev pub is_sign : List ℕ → Lexeme → Bool
is_sign text l = elim l.token.kind [ kinds.Name ↦ false | kinds.Quoted ↦ false | kinds.Reserved ↦ false | kinds.Number ↦ false | kinds.Str ↦ false | kinds.Sign ↦ bytes_eq l.text text ]

abbrev pub is_word : List ℕ → Lexeme → Bool
is_word text l = elim l.token.kind [ kinds.Name ↦ false | kinds.Quoted ↦ false | kinds.Reserved ↦ bytes_eq l.text text | kinds.Number ↦ false | kinds.Str ↦ false | kinds.Sign ↦ false ]

-- the text of a name; one in quotes stands for what is quoted
unfoldable pub name_text : TokenKind → List ℕ → Option (List ℕ)
name_text kinds.Name text = Some (chars text)
name_text kinds.Quoted text = Some (unquoted (chars text))
name_text kinds.Reserved text = None
name_text kinds.Number text = None
name_text kinds.Str text = None
name_text kinds.Sign text = None

-- the Integer that decimal digits write
unfoldable pub integer_of : List ℕ → Option ℤ
integer_of text = if list_all is_ascii_digit text && nat_le (decimal 0 text) MAX_INTEGER then Some (pos (decimal 0 text)) else None

abbrev pub is_name : Name → Lexeme → Bool
is_name name l = option_map_or (bytes_eq name.text) (name_text l.token.kind l.text) false && is_same_span l.token.span name.span

-- a string that stands for this text, of storable characters
abbrev pub is_string : List ℕ → Lexeme → Bool
is_string text l = elim l.token.kind [ kinds.Name ↦ false | kinds.Quoted ↦ false | kinds.Reserved ↦ false | kinds.Number ↦ false | kinds.Str ↦ bytes_eq text (unquoted (chars l.text)) && is_storable_text text | kinds.Sign ↦ false ]

abbrev pub is_number : ℤ → Lexeme → Bool
is_number value l = elim l.token.kind [ kinds.Name ↦ false | kinds.Quoted ↦ false | kinds.Reserved ↦ false | kinds.Number ↦ option_map_or (int_eq value) (integer_of l.text) false | kinds.Str ↦ false | kinds.Sign ↦ false ]

-- the token of this number passes the test
unfoldable pub stands : (Lexeme → Bool) → List Lexeme → ℕ → Bool
stands passes ts at = option_map_or passes (slice_get ts at) false
