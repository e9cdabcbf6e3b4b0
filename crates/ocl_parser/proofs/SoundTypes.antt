-- Symbols in a type, and at the heads of `let` and of an iterator.
use Rattle.std.proofs.Common.{◌≡◌, ℕ, ◌+◌, ◌-◌, ◌≤◌, nat_lt, List, ◌∷◌, length, Some, ap, sym, ◌∙◌, refl, subst, arith}
use Rattle.std.specs.Prelude.{codes}
use Rattle.mof_metamodel.specs.declared.span.Span.{Span}
use Rattle.ql_lex.specs.Lexed.{Lexeme}
use Rattle.qv_syntax.specs.declared.name.Name.{Name}
use Rattle.qv_syntax.specs.declared.name.Path.{Path}
use Rattle.qv_syntax.specs.declared.operator.Operator.TheVariants as operators
use Rattle.qv_syntax.specs.declared.type_tree.Kind.{Kind}
use Rattle.qv_syntax.specs.declared.type_tree.TypeTree.{TypeTree}
use Rattle.qv_syntax.specs.declared.type_tree.TypeTree.TheVariants as types
use Rattle.ql_lex.specs.Lexemes.{end_of}
use Rattle.ocl_parser.specs.Grammar.{type_of}
use Rattle.ocl_parser.specs.Moves.{from_to, plain_type, type_begin, type_end, type_path, on_name, on_colon, on_brace, on_type_parenthesis, open_levels, state_levels}
use Rattle.ql_lex.specs.declared.symbol.Symbol.{Symbol}
use Rattle.ql_lex.specs.declared.symbol.Symbol.TheVariants as symbols
use Rattle.ql_lex.specs.declared.symbol.PlainType.{PlainType}
use Rattle.ql_lex.specs.declared.symbol.PlainType.TheVariants as plain
use Rattle.ocl_parser.specs.declared.frame.Iterated.{Iterated}
use Rattle.ocl_parser.specs.declared.frame.Frame.{Frame}
use Rattle.ocl_parser.specs.declared.frame.Frame.TheVariants as frames
use Rattle.ocl_parser.specs.declared.state.State.{State}
use Rattle.ocl_parser.proofs.TypeLaws.{type_str, type_int, type_bool, type_named, type_coll}
use Rattle.ocl_parser.proofs.HeadLaws.{bound_spelled, typed_spelled, variable_spelled}
use Rattle.ocl_parser.proofs.SoundStacks.{here, IsNamed, IsSign, LetAt, KindAt, PathAt, Holds, StateAt}
use Rattle.ocl_parser.proofs.SoundReduced.{floor_most, span_to, chosen}
use Rattle.ocl_parser.proofs.SoundParts.{path_one}
use Rattle.ocl_parser.proofs.SoundOperands.{one_span, path_spelled}
use Rattle.std.proofs.lemmas.Bool.{ltb-true}
use Rattle.ocl_parser.proofs.SoundMoves.{Fits, IsAt, room}

-- ---- where a type begins

plain_spelled : (ts : List Lexeme) (ty : PlainType) (n b : ℕ) → IsAt ts b (symbols.Plain ty) → type_of ts (plain_type ty (here ts b)) n b ≡ Some (b + 1)
plain_spelled ts plain.Str n b e = ap (λ (s : Span). type_of ts (types.Str s) n b) (one_span ts b) ∙ type_str ts n b e
plain_spelled ts plain.Int n b e = ap (λ (s : Span). type_of ts (types.Int s) n b) (one_span ts b) ∙ type_int ts n b e
plain_spelled ts plain.Bool n b e = ap (λ (s : Span). type_of ts (types.Bool s) n b) (one_span ts b) ∙ type_bool ts n b e

pub type_begin_fits : (ts : List Lexeme) (from levels : ℕ) (stack : List Frame) (s : Symbol) (b n : ℕ) → Holds ts from levels stack b n → IsAt ts b s
    → Fits ts from levels b (type_begin stack s (here ts b))
type_begin_fits ts from levels stack (symbols.Plain ty) b n h e = λ _. record { a = b; n = n; below = h; read = plain_spelled ts ty n b e }
type_begin_fits ts from levels stack (symbols.Kind kind) b n h e = λ _. record { a = b; n = n; below = h; read = (refl, e, refl) }
type_begin_fits ts from levels stack (symbols.Name name) b n h e = λ _. record { a = b; n = n; below = h; read = path_one ts 2 name b (omega arith) e }
type_begin_fits ts from levels stack s b n h e = tt

pub type_parenthesis_fits : (ts : List Lexeme) (from levels : ℕ) (stack : List Frame) (start : ℕ) (kind : Kind) (s : Symbol) (a b n : ℕ)
    → Holds ts from levels stack a n → KindAt ts kind start a b → IsAt ts b s
    → Fits ts from levels b (on_type_parenthesis stack start kind s)
type_parenthesis_fits ts from levels stack start kind symbols.OpenParenthesis a b n h r e = λ ltb-true. (
  n - 1,
  record {
    a = a;
    n = n;
    below = h;
    fits = floor_most stack;
    frame =
        (record { level = room ts from levels stack a n h (omega (arith, ltb-true)); begin = r.0; token = r.1 }, subst (IsSign ts (codes "(")) r.2 e, ap (λ (x : ℕ). x + 1) r.2);
  },
)
type_parenthesis_fits ts from levels stack start kind s a b n h r e = tt

pub brace_fits : (ts : List Lexeme) (from levels : ℕ) (stack : List Frame) (start : ℕ) (kind : Kind) (s : Symbol) (a b n : ℕ) → Holds ts from levels stack a n
    → KindAt ts kind start a b → IsAt ts b s
    → Fits ts from levels b (on_brace stack start kind s)
brace_fits ts from levels stack start kind symbols.OpenBrace a b n h r e = λ ltb-true. (
  n - 1,
  record {
    a = a;
    n = n;
    below = h;
    fits = floor_most stack;
    frame =
        (record { level = room ts from levels stack a n h (omega (arith, ltb-true)); begin = r.0; token = r.1 }, subst (IsSign ts (codes "{")) r.2 e, ap (λ (x : ℕ). x + 1) r.2);
  },
)
brace_fits ts from levels stack start kind s a b n h r e = tt

-- ---- where a type ends

type_closes : (ts : List Lexeme) (from levels start : ℕ) (kind : Kind) (stack : List Frame) (ty : TypeTree) (a b m : ℕ)
    → Holds ts from levels (frames.OfKind start kind ∷ stack) a m → type_of ts ty m a ≡ Some b
    → IsAt ts b symbols.CloseParenthesis → Fits ts from levels b (type_end (frames.OfKind start kind ∷ stack) ty symbols.CloseParenthesis (here ts b))
type_closes ts from levels start kind stack ty a b m h r e =
    let o = h.frame.0 in
    λ _. record {
      a = h.a;
      n = h.n;
      below = h.below;
      read =
          type_coll ts kind ty (from_to start (end_of ts b)) h.n m h.a a b (b + 1) o.token h.frame.1 h.frame.2 o.level r e refl
          (span_to ts start h.a b (b + 1) o.begin refl);
    }

let_typed : (ts : List Lexeme) (from levels start : ℕ) (name : Name) (stack : List Frame) (ty : TypeTree) (a b m : ℕ)
    → Holds ts from levels (frames.LetType start name ∷ stack) a m → type_of ts ty m a ≡ Some b
    → IsAt ts b (symbols.Operator operators.Equal)
    → Fits ts from levels b (type_end (frames.LetType start name ∷ stack) ty (symbols.Operator operators.Equal) (here ts b))
let_typed ts from levels start name stack ty a b m h r e =
    λ _. (
      m,
      record {
        a = h.a;
        n = h.n;
        below = h.below;
        fits = h.fits;
        frame = (h.frame.0, bound_spelled ts name ty m (h.a + 1) (h.a + 1 + 1) a b (b + 1) h.frame.1 refl h.frame.2 h.frame.3 r e refl);
      },
    )

variable_typed : (ts : List Lexeme) (from levels : ℕ) (it : Iterated) (stack : List Frame) (ty : TypeTree) (a b m : ℕ)
    → Holds ts from levels (frames.VariableType it ∷ stack) a m → type_of ts ty m a ≡ Some b
    → IsAt ts b symbols.Bar → Fits ts from levels b (type_end (frames.VariableType it ∷ stack) ty symbols.Bar (here ts b))
variable_typed ts from levels it stack ty a b m h r e =
    let f = h.frame in
    let v = f.variable in
    let typed = typed_spelled ts ty m f.at b f.colon (ap (λ (x : ℕ). type_of ts ty m x) (sym f.end) ∙ r) in
    λ _. (
      m,
      record {
        a = h.a;
        n = h.n;
        below = h.below;
        fits = h.fits;
        frame = record {
          level = f.level;
          at = v.at;
          step = v.step;
          variable = variable_spelled ts it.variable (Some ty) m v.at (v.at + 1) f.at b (b + 1) v.opens refl v.variable v.end typed e refl;
        };
      },
    )

pub type_end_fits : (ts : List Lexeme) (from levels : ℕ) (stack : List Frame) (ty : TypeTree) (s : Symbol) (a b m : ℕ) → Holds ts from levels stack a m
    → type_of ts ty m a ≡ Some b → IsAt ts b s
    → Fits ts from levels b (type_end stack ty s (here ts b))
type_end_fits ts from levels (frames.OfKind start kind ∷ stack) ty symbols.CloseParenthesis a b m h r e = type_closes ts from levels start kind stack ty a b m h r e
type_end_fits ts from levels (frames.LetType start name ∷ stack) ty (symbols.Operator operators.Equal) a b m h r e =
    let_typed ts from levels start name stack ty a b m h r e
type_end_fits ts from levels (frames.VariableType it ∷ stack) ty symbols.Bar a b m h r e = variable_typed ts from levels it stack ty a b m h r e
type_end_fits ts from levels stack ty s a b m h r e = tt

path_ends : (ts : List Lexeme) (from levels : ℕ) (stack : List Frame) (p : Path) (s : Symbol) (a b n : ℕ) → Holds ts from levels stack a n → PathAt ts 2 p a b
    → IsAt ts b s
    → Fits ts from levels b (type_end stack (types.Named p) s (here ts b))
path_ends ts from levels stack p s a b n h r e = type_end_fits ts from levels stack (types.Named p) s a b n h (type_named ts p n a b (path_spelled ts 2 p a b r)) e

pub type_path_fits : (ts : List Lexeme) (from levels : ℕ) (stack : List Frame) (p : Path) (s : Symbol) (a b n : ℕ) → Holds ts from levels stack a n → PathAt ts 2 p a b
    → IsAt ts b s
    → Fits ts from levels b (type_path stack p s (here ts b))
type_path_fits ts from levels stack p symbols.DoubleColon a b n h r e = chosen (Fits ts from levels b) (nat_lt (length p.names) 2) _ _
    (λ less. λ _. record { a = a; n = n; below = h; read = record { at = b; room = ltb-true (length p.names) 2 less; shorter = r; sign = e; end = refl } })
    (λ _. path_ends ts from levels stack p symbols.DoubleColon a b n h r e)
type_path_fits ts from levels stack p s a b n h r e = path_ends ts from levels stack p s a b n h r e

-- ---- a name

-- where a name is read, and the next state holds what it holds with the name
pub name_fits : (ts : List Lexeme) (from levels : ℕ) (stack : List Frame) (next : Name → State) (s : Symbol) (b : ℕ)
    → ((name : Name) → IsNamed ts name b → open_levels stack + state_levels (next name) ≤ levels → StateAt ts from levels stack (next name) (b + 1)) → IsAt ts b s
    → Fits ts from levels b (on_name stack next s)
name_fits ts from levels stack next (symbols.Name name) b holds e = holds name e
name_fits ts from levels stack next s b holds e = tt

pub colon_fits : (ts : List Lexeme) (from levels : ℕ) (stack : List Frame) (start : ℕ) (name : Name) (s : Symbol) (a b n : ℕ) → Holds ts from levels stack a n
    → LetAt ts stack start n a → IsNamed ts name (a + 1)
    → b ≡ a + 1 + 1 → IsAt ts b s → Fits ts from levels b (on_colon stack start name s)
colon_fits ts from levels stack start name symbols.Colon a b n h r named end e =
    λ _. (r.m, record { a = a; n = n; below = h; fits = r.free; frame = (r.opens, named, subst (IsSign ts (codes ":")) end e, ap (λ (x : ℕ). x + 1) end) })
colon_fits ts from levels stack start name s a b n h r named end e = tt
