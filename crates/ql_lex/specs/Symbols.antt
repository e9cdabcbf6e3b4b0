-- Tokens as the grammar sees them.
use Rattle.std.specs.Prelude.{ℕ, true, false, if◌then◌else◌, List, [], ◌∷◌, codes, Option, Some, None, ℤ}
use Rattle.std.specs.Str.{chars, bytes_eq}
use Rattle.mof_metamodel.specs.Characters.{is_storable_text}
use Rattle.mof_metamodel.specs.declared.span.Span.{Span}
use Rattle.ql_lex.specs.declared.token.TokenKind.{TokenKind}
use Rattle.ql_lex.specs.declared.token.TokenKind.TheVariants as kinds
use Rattle.ql_lex.specs.Lexed.{Lexeme}
use Rattle.qv_syntax.specs.declared.operator.Operator.TheVariants as operators
use Rattle.qv_syntax.specs.declared.type_tree.Kind.TheVariants as collections
use Rattle.ql_lex.specs.Lexemes.{integer_of, name_text}
use Rattle.ql_lex.specs.Unquoting.{unquoted}
use Rattle.ql_lex.specs.declared.symbol.Symbol.{Symbol}
use Rattle.ql_lex.specs.declared.symbol.Symbol.TheVariants as symbols
use Rattle.ql_lex.specs.declared.symbol.PlainType.TheVariants as plain
use Rattle.ql_lex.specs.declared.symbol.Terminal.{Terminal}

-- the first of these texts that a text is stands for its symbol
unfoldable pub symbol_among : List ℕ → List (List ℕ × Symbol) → Symbol
symbol_among text [] = symbols.Other
symbol_among text (entry ∷ entries) = if bytes_eq text entry.0 then entry.1 else symbol_among text entries

-- the reserved words of expressions
abbrev pub words : List (List ℕ × Symbol)
words =
    (codes "let", symbols.Let) ∷ (codes "in", symbols.In) ∷ (codes "if", symbols.If) ∷ (codes "then", symbols.Then) ∷ (codes "else", symbols.Else)
    ∷ (codes "endif", symbols.Endif) ∷ (codes "not", symbols.Not) ∷ (codes "null", symbols.Null) ∷ (codes "invalid", symbols.Invalid)
    ∷ (codes "true", symbols.Bool true) ∷ (codes "false", symbols.Bool false)
    ∷ (codes "Set", symbols.Kind collections.Set) ∷ (codes "Bag", symbols.Kind collections.Bag)
    ∷ (codes "Sequence", symbols.Kind collections.Sequence) ∷ (codes "OrderedSet", symbols.Kind collections.OrderedSet)
    ∷ (codes "String", symbols.Plain plain.Str) ∷ (codes "Integer", symbols.Plain plain.Int) ∷ (codes "Boolean", symbols.Plain plain.Bool)
    ∷ (codes "implies", symbols.Operator operators.Implies) ∷ (codes "xor", symbols.Operator operators.Xor)
    ∷ (codes "or", symbols.Operator operators.Or) ∷ (codes "and", symbols.Operator operators.And) ∷ []

-- the signs of expressions
abbrev pub signs : List (List ℕ × Symbol)
signs =
    (codes "(", symbols.OpenParenthesis) ∷ (codes ")", symbols.CloseParenthesis) ∷ (codes "{", symbols.OpenBrace) ∷ (codes "}", symbols.CloseBrace)
    ∷ (codes ",", symbols.Comma) ∷ (codes ":", symbols.Colon) ∷ (codes "::", symbols.DoubleColon) ∷ (codes ".", symbols.Dot)
    ∷ (codes "->", symbols.Arrow) ∷ (codes "|", symbols.Bar)
    ∷ (codes "=", symbols.Operator operators.Equal) ∷ (codes "<>", symbols.Operator operators.NotEqual)
    ∷ (codes "<", symbols.Operator operators.Less) ∷ (codes ">", symbols.Operator operators.Greater)
    ∷ (codes "<=", symbols.Operator operators.AtMost) ∷ (codes ">=", symbols.Operator operators.AtLeast)
    ∷ (codes "+", symbols.Operator operators.Plus) ∷ (codes "-", symbols.Operator operators.Minus) ∷ (codes "*", symbols.Operator operators.Times) ∷ []

abbrev pub number_symbol : Option ℤ → Symbol
number_symbol (Some value) = symbols.Number value
number_symbol None = symbols.Other

-- a string, if each of its characters is storable
abbrev pub string_symbol : List ℕ → Symbol
string_symbol text = if is_storable_text text then symbols.Str text else symbols.Other

abbrev pub name_symbol : Option (List ℕ) → Span → Symbol
name_symbol (Some text) span = symbols.Name (record { text = text; span = span })
name_symbol None span = symbols.Other

abbrev pub symbol_by : TokenKind → List ℕ → Span → Symbol
symbol_by kinds.Name text span = name_symbol (name_text kinds.Name text) span
symbol_by kinds.Quoted text span = name_symbol (name_text kinds.Quoted text) span
symbol_by kinds.Reserved text span = symbol_among text words
symbol_by kinds.Number text span = number_symbol (integer_of text)
symbol_by kinds.Str text span = string_symbol (unquoted (chars text))
symbol_by kinds.Sign text span = symbol_among text signs

-- the symbol that a token is
unfoldable pub symbol_of : Lexeme → Symbol
symbol_of l = symbol_by l.token.kind l.text l.token.span

abbrev pub nowhere : Span
nowhere = record { start = 0; end = 0 }

-- the symbol that a token is, and where it stands; nothing stands behind the last one
abbrev pub terminal_of : Option Lexeme → Terminal
terminal_of (Some l) = record { symbol = symbol_of l; span = l.token.span }
terminal_of None = record { symbol = symbols.Other; span = nowhere }
