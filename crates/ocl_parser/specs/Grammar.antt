-- The grammar of expressions (OCL 2.4, chapter 9): which tokens spell which tree, one clause for each form.
use Rattle.std.specs.Prelude.{ℕ, Bool, true, false, not, ◌&&◌, ◌||◌, ◌==◌, nat_lt, nat_le, if◌then◌else◌, List, [], ◌∷◌, map, length, Option, codes, encode_utf8_all}
use Rattle.std.specs.List.{list_all}
use Rattle.std.specs.Option.{option_map_or}
use Rattle.std.specs.Str.{bytes_eq}
use Rattle.ql_lex.specs.Lexed.{Lexeme}
use Rattle.qv_syntax.specs.declared.name.Name.{Name}
use Rattle.qv_syntax.specs.declared.name.Path.{Path}
use Rattle.qv_syntax.specs.declared.operator.Operator.{Operator}
use Rattle.qv_syntax.specs.declared.operator.Operator.TheVariants as operators
use Rattle.qv_syntax.specs.declared.type_tree.Kind.{Kind}
use Rattle.qv_syntax.specs.declared.type_tree.Kind.TheVariants as collections
use Rattle.qv_syntax.specs.declared.type_tree.TypeTree.{TypeTree, fold-TypeTree}
use Rattle.qv_syntax.specs.declared.type_tree.TypeTree.TheOpen as types
use Rattle.qv_syntax.specs.declared.expr.Expr.{Expr, fold-Expr}
use Rattle.qv_syntax.specs.declared.expr.Infix.{Infix, fold-Infix}
use Rattle.qv_syntax.specs.declared.expr.Postfix.{Postfix, fold-Postfix}
use Rattle.qv_syntax.specs.declared.expr.Args.{Args, fold-Args}
use Rattle.qv_syntax.specs.declared.expr.Args.TheOpen as of
use Rattle.qv_syntax.specs.Operators.{level_of}
use Rattle.ocl_parser.specs.Pieces.{Piece, ◌▸◌, empty, token, sign, word, name, nested, only, spanned, each, separated}
use Rattle.ql_lex.specs.Lexemes.{is_sign, is_word, is_string, is_number}

-- ---- paths and types

-- names with `::` between them
unfoldable pub names : List Lexeme → List Name → Piece
names ts ns = separated ts (codes "::") (map (name ts) ns)

-- from one name to so many
unfoldable pub path : List Lexeme → ℕ → Path → Piece
path ts most p = spanned ts p.span (only (nat_lt 0 (length p.names) && nat_le (length p.names) most) (names ts p.names))

-- a class, as `C` or `M::C`
abbrev pub class_path : List Lexeme → Path → Piece
class_path ts = path ts 2

-- a variable, a class, or a literal, as `M::E::literal`
abbrev pub named_path : List Lexeme → Path → Piece
named_path ts = path ts 3

abbrev pub kind_word : Kind → List ℕ
kind_word collections.Set = codes "Set"
kind_word collections.Bag = codes "Bag"
kind_word collections.Sequence = codes "Sequence"
kind_word collections.OrderedSet = codes "OrderedSet"

abbrev pub type_step : List Lexeme → types.TypeTree-F Piece → Piece
type_step ts (types.Str span) = spanned ts span (word ts (codes "String"))
type_step ts (types.Int span) = spanned ts span (word ts (codes "Integer"))
type_step ts (types.Bool span) = spanned ts span (word ts (codes "Boolean"))
type_step ts (types.Named p) = class_path ts p
type_step ts (types.Coll kind inner span) = spanned ts span (word ts (kind_word kind) ▸ nested (sign ts (codes "(") ▸ inner ▸ sign ts (codes ")")))

-- a type as it is written
unfoldable pub type_of : List Lexeme → TypeTree → Piece
type_of ts = fold-TypeTree Piece (type_step ts)

-- ---- expressions

-- the token of an operator: a reserved word or a sign
abbrev pub is_operator : Operator → Lexeme → Bool
is_operator operators.Implies = is_word (codes "implies")
is_operator operators.Xor = is_word (codes "xor")
is_operator operators.Or = is_word (codes "or")
is_operator operators.And = is_word (codes "and")
is_operator operators.Equal = is_sign (codes "=")
is_operator operators.NotEqual = is_sign (codes "<>")
is_operator operators.Less = is_sign (codes "<")
is_operator operators.Greater = is_sign (codes ">")
is_operator operators.AtMost = is_sign (codes "<=")
is_operator operators.AtLeast = is_sign (codes ">=")
is_operator operators.Plus = is_sign (codes "+")
is_operator operators.Minus = is_sign (codes "-")
is_operator operators.Times = is_sign (codes "*")

-- An expression: how tightly it binds, and its tokens. A `let` binds at 0, a chain like its operators, from 0 to 7,
-- `not` and `-` at 8, calls at 9, and all else at 10.
pub record Form : Type 0 where
  pub binding : ℕ
  pub piece : Piece

-- an operator and the part behind it
pub record InfixForm : Type 0 where
  pub level : ℕ
  pub subtree : ℕ
  pub piece : Piece

-- what stands between the parentheses of a call
pub record Given : Type 0 where
  pub is_class : Bool
  pub piece : Piece

-- the level of a chain's operators
abbrev pub chain_level : List InfixForm → ℕ
chain_level [] = 0
chain_level (l ∷ ls) = l.level

-- an operator of this level, and behind it a part that binds tighter
abbrev pub is_of_level : ℕ → InfixForm → Bool
is_of_level level l = (l.level == level) && nat_lt level l.subtree

-- there is an operator, all are of one level, and each part binds tighter
abbrev pub is_chain : Form → List InfixForm → Bool
is_chain first rest = nat_lt 0 (length rest) && nat_lt (chain_level rest) first.binding
    && list_all (is_of_level (chain_level rest)) rest

-- the operations whose argument is a class
unfoldable pub takes_class : List ℕ → Bool
takes_class text = let bytes = encode_utf8_all text in bytes_eq bytes (codes "oclIsKindOf") || bytes_eq bytes (codes "oclIsTypeOf") || bytes_eq bytes (codes "oclAsType")

abbrev pub is_same : Bool → Bool → Bool
is_same a b = if a then b else not b

-- `( args )` behind a name
abbrev pub args_for : List ℕ → Given → Piece
args_for text args = only (is_same args.is_class (takes_class text)) args.piece

unfoldable pub optional_type : List Lexeme → Option TypeTree → Piece
optional_type ts ty = option_map_or (λ t. sign ts (codes ":") ▸ type_of ts t) ty empty

-- `name : type =`
unfoldable pub bound : List Lexeme → Name → TypeTree → Piece
bound ts n ty = name ts n ▸ sign ts (codes ":") ▸ type_of ts ty ▸ sign ts (codes "=")

-- `( variable : type |`, the type left out or not
unfoldable pub declared_variable : List Lexeme → Name → Option TypeTree → Piece
declared_variable ts n ty = sign ts (codes "(") ▸ name ts n ▸ optional_type ts ty ▸ sign ts (codes "|")

abbrev pub constant : Bool → List ℕ
constant value = if value then codes "true" else codes "false"

abbrev pub expr_step : List Lexeme → of.Expr-F Given Form Piece InfixForm → Form
expr_step ts (of.Let n ty value body span) = record {
  binding = 0;
  piece = spanned ts span (nested
      (word ts (codes "let") ▸ bound ts n ty ▸ value.piece ▸ word ts (codes "in") ▸ body.piece));
}
expr_step ts (of.Chain first rest span) = record {
  binding = chain_level rest;
  piece = spanned ts span
      (only (is_chain first rest) (first.piece ▸ each (map (λ l. l.piece) rest)));
}
expr_step ts (of.Not operand span) = record { binding = 8; piece = spanned ts span (only (nat_le 8 operand.binding) (nested (word ts (codes "not") ▸ operand.piece))) }
expr_step ts (of.Negated operand span) = record { binding = 8; piece = spanned ts span (only (nat_le 8 operand.binding) (nested (sign ts (codes "-") ▸ operand.piece))) }
expr_step ts (of.Calls subtree steps span) = record { binding = 9; piece = spanned ts span (only (nat_le 10 subtree.binding && nat_lt 0 (length steps)) (subtree.piece ▸ each steps)) }
expr_step ts (of.Number value span) = record { binding = 10; piece = spanned ts span (token (is_number value) ts) }
expr_step ts (of.Str value span) = record { binding = 10; piece = spanned ts span (token (is_string value) ts) }
expr_step ts (of.Bool value span) = record { binding = 10; piece = spanned ts span (word ts (constant value)) }
expr_step ts (of.Null span) = record { binding = 10; piece = spanned ts span (word ts (codes "null")) }
expr_step ts (of.Invalid span) = record { binding = 10; piece = spanned ts span (word ts (codes "invalid")) }
expr_step ts (of.Parens inner span) = record { binding = 10; piece = spanned ts span (nested (sign ts (codes "(") ▸ inner.piece ▸ sign ts (codes ")"))) }
expr_step ts (of.If condition one other span) = record {
  binding = 10;
  piece = spanned ts span (nested
      (word ts (codes "if") ▸ condition.piece ▸ word ts (codes "then") ▸ one.piece ▸ word ts (codes "else") ▸ other.piece ▸ word ts (codes "endif")));
}
expr_step ts (of.Coll kind elements span) = record {
  binding = 10;
  piece = spanned ts span
      (word ts (kind_word kind) ▸ nested (sign ts (codes "{") ▸ separated ts (codes ",") (map (λ e. e.piece) elements) ▸ sign ts (codes "}")));
}
expr_step ts (of.Call n args span) = record { binding = 10; piece = spanned ts span (name ts n ▸ args_for n.text args) }
expr_step ts (of.Named p) = record { binding = 10; piece = named_path ts p }

abbrev pub infix_step : List Lexeme → of.Infix-F Given Form Piece InfixForm → InfixForm
infix_step ts l = record { level = level_of l.operator; subtree = l.right.binding; piece = token (is_operator l.operator) ts ▸ l.right.piece }

abbrev pub postfix_step : List Lexeme → of.Postfix-F Given Form Piece InfixForm → Piece
postfix_step ts (of.Property n) = sign ts (codes ".") ▸ name ts n
postfix_step ts (of.Dot n args span) = spanned ts span (sign ts (codes ".") ▸ name ts n ▸ args_for n.text args)
postfix_step ts (of.Arrow n args span) = spanned ts span (sign ts (codes "->") ▸ name ts n ▸ args_for n.text args)
postfix_step ts (of.Iterator n variable ty body span) = spanned ts span (sign ts (codes "->") ▸ name ts n
    ▸ nested (declared_variable ts variable ty ▸ body.piece ▸ sign ts (codes ")")))

abbrev pub args_step : List Lexeme → of.Args-F Given Form Piece InfixForm → Given
args_step ts (of.Values values) = record { is_class = false; piece = nested (sign ts (codes "(") ▸ separated ts (codes ",") (map (λ e. e.piece) values) ▸ sign ts (codes ")")) }
args_step ts (of.Class p) = record { is_class = true; piece = nested (sign ts (codes "(") ▸ class_path ts p ▸ sign ts (codes ")")) }

abbrev pub form : List Lexeme → Expr → Form
form ts = fold-Expr Given Form Piece InfixForm (args_step ts) (expr_step ts) (postfix_step ts) (infix_step ts)

abbrev pub infix_form : List Lexeme → Infix → InfixForm
infix_form ts = fold-Infix Given Form Piece InfixForm (args_step ts) (expr_step ts) (postfix_step ts) (infix_step ts)

abbrev pub postfix_piece : List Lexeme → Postfix → Piece
postfix_piece ts = fold-Postfix Given Form Piece InfixForm (args_step ts) (expr_step ts) (postfix_step ts) (infix_step ts)

abbrev pub given : List Lexeme → Args → Given
given ts = fold-Args Given Form Piece InfixForm (args_step ts) (expr_step ts) (postfix_step ts) (infix_step ts)

-- how tightly an expression binds
unfoldable pub binding : List Lexeme → Expr → ℕ
binding ts e = (form ts e).binding

-- The number of the token behind those that spell the expression from a number on, if they do, with at most so many levels
-- of nesting.
unfoldable pub spelled : List Lexeme → ℕ → Expr → ℕ → Option ℕ
spelled ts levels e at = (form ts e).piece levels at

-- the same of the operators of a chain with their parts, of one call, of several, of arguments behind a name, and of a list
unfoldable pub spelled_infixes : List Lexeme → ℕ → List Infix → ℕ → Option ℕ
spelled_infixes ts levels infixes at = each (map (λ l. l.piece) (map (infix_form ts) infixes)) levels at

unfoldable pub spelled_postfix : List Lexeme → ℕ → Postfix → ℕ → Option ℕ
spelled_postfix ts levels step at = postfix_piece ts step levels at

unfoldable pub spelled_postfixes : List Lexeme → ℕ → List Postfix → ℕ → Option ℕ
spelled_postfixes ts levels steps at = each (map (postfix_piece ts) steps) levels at

unfoldable pub spelled_args : List Lexeme → ℕ → List ℕ → Args → ℕ → Option ℕ
spelled_args ts levels text args at = args_for text (given ts args) levels at

unfoldable pub spelled_list : List Lexeme → ℕ → List Expr → ℕ → Option ℕ
spelled_list ts levels es at = separated ts (codes ",") (map (λ e. e.piece) (map (form ts) es)) levels at

-- the operators are of this level, and the parts behind them bind tighter
unfoldable pub are_of_level : List Lexeme → ℕ → List Infix → Bool
are_of_level ts level infixes = list_all (is_of_level level) (map (infix_form ts) infixes)
