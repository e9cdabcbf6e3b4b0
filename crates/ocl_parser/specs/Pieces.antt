-- Which tokens stand where: pieces of single tokens and of several.
use Rattle.std.specs.Prelude.{ℕ, ◌+◌, ◌-◌, Bool, ◌==◌, if◌then◌else◌, List, [], ◌∷◌, map, Option, Some, None, option_and_then}
use Rattle.mof_metamodel.specs.declared.span.Span.{Span}
use Rattle.qv_syntax.specs.declared.name.Name.{Name}
use Rattle.ql_lex.specs.Lexed.{Lexeme}
use Rattle.ql_lex.specs.Lexemes.{is_sign, is_word, is_name, is_same_span, span_at, stands}

-- A piece of a text: of the number of its first token, the number of the token behind it, if the piece stands there and
-- opens at most so many levels of nesting.
abbrev pub Piece : Type 0
Piece = ℕ → ℕ → Option ℕ

abbrev pub empty : Piece
empty levels at = Some at

-- one piece and, behind it, another
infixl 12 ◌▸◌
abbrev pub ◌▸◌ : Piece → Piece → Piece
(p ▸ q) levels at = option_and_then (q levels) (p levels at)

abbrev pub token : (Lexeme → Bool) → List Lexeme → Piece
token passes ts levels at = if stands passes ts at then Some (at + 1) else None

abbrev pub sign : List Lexeme → List ℕ → Piece
sign ts text = token (is_sign text) ts

abbrev pub word : List Lexeme → List ℕ → Piece
word ts text = token (is_word text) ts

abbrev pub name : List Lexeme → Name → Piece
name ts n = token (is_name n) ts

-- a piece that nests: all of it is one level further in
unfoldable pub nested : Piece → Piece
nested p levels at = if levels == 0 then None else p (levels - 1) at

-- a piece on a condition
abbrev pub only : Bool → Piece → Piece
only holds p levels at = if holds then p levels at else None

-- a piece that begins and ends where the span says
abbrev pub spanned : List Lexeme → Span → Piece → Piece
spanned ts span p levels at = option_and_then (λ end. if is_same_span span (span_at ts at end) then Some end else None) (p levels at)

-- pieces one behind the other
unfoldable pub each : List Piece → Piece
each [] = empty
each (p ∷ ps) = p ▸ each ps

-- pieces with a sign between them
unfoldable pub separated : List Lexeme → List ℕ → List Piece → Piece
separated ts text [] = empty
separated ts text (p ∷ ps) = p ▸ each (map (λ q. sign ts text ▸ q) ps)
