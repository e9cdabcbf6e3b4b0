-- Symbols where an operand begins, behind a path, and behind a name with its `.`.
use Rattle.std.proofs.Common.{◌≡◌, ℕ, ◌+◌, ◌-◌, ◌<◌, Bool, true, false, nat_lt, if◌then◌else◌, List, [], ◌∷◌, length, Some, None, ap, sym, ◌∙◌, refl, subst, arith}
use Rattle.std.specs.Prelude.{codes, option_and_then}
use Rattle.std.proofs.lemmas.Bool.Decides.{nat_tests}
use Rattle.mof_metamodel.specs.declared.span.Span.{Span}
use Rattle.ql_lex.specs.Lexed.{Lexeme}
use Rattle.qv_syntax.specs.declared.name.Name.{Name}
use Rattle.qv_syntax.specs.declared.name.Path.{Path}
use Rattle.qv_syntax.specs.declared.operator.Operator.TheVariants as operators
use Rattle.qv_syntax.specs.declared.expr.Expr.{Expr}
use Rattle.qv_syntax.specs.declared.expr.Expr.TheVariants as exprs
use Rattle.qv_syntax.specs.declared.expr.Postfix.TheVariants as postfixes
use Rattle.qv_syntax.specs.declared.expr.Args.TheVariants as args
use Rattle.ocl_parser.specs.Pieces.{each, separated}
use Rattle.ql_lex.specs.Lexemes.{stands, is_name, start_of, end_of, span_at}
use Rattle.ocl_parser.specs.Grammar.{names, path, binding, spelled, takes_class}
use Rattle.ocl_parser.specs.Moves.{to, from_to, base_of, with_postfix, behind_base, begins_expression, let_on, none_in_parentheses, none_in_braces, operand, arguments, call_of, after_path, path_by, on_path, dotted}
use Rattle.ql_lex.specs.declared.symbol.Symbol.{Symbol}
use Rattle.ql_lex.specs.declared.symbol.Symbol.TheVariants as symbols
use Rattle.ocl_parser.specs.declared.frame.Base.{Base}
use Rattle.ocl_parser.specs.declared.frame.Before.TheVariants as before
use Rattle.ocl_parser.specs.declared.frame.CallHead.{CallHead}
use Rattle.ocl_parser.specs.declared.frame.Frame.{Frame}
use Rattle.ocl_parser.specs.declared.frame.Frame.TheVariants as frames
use Rattle.ocl_parser.specs.declared.state.State.TheVariants as states
use Rattle.ocl_parser.proofs.ExprLaws.{number_spelled, number_binding, string_spelled, string_binding, constant_spelled, constant_binding, null_spelled, null_binding, invalid_spelled, invalid_binding, named_spelled, named_binding, coll_spelled, coll_binding}
use Rattle.ocl_parser.proofs.StepLaws.{values_spelled, property_spelled, list_none}
use Rattle.ocl_parser.proofs.PieceLaws.{path_of as path_whole}
use Rattle.ocl_parser.proofs.SoundStacks.{here, IsNamed, BaseAt, StepAt, CalledAt, PathAt, Holds}
use Rattle.ocl_parser.proofs.SoundReduced.{floor_most, begins_free, span_to, chosen}
use Rattle.ocl_parser.proofs.SoundParts.{name_spans, path_one, base_first, step_added, called_with}
use Rattle.ocl_parser.proofs.SoundMoves.{Fits, IsAt, room, after_fits}
use Rattle.std.proofs.lemmas.Bool.{ltb-true}

-- ---- an operand begins

let_begins : (ts : List Lexeme) (from levels : ℕ) (stack : List Frame) (b n : ℕ) → Holds ts from levels stack b n → IsAt ts b symbols.Let
    → Fits ts from levels b (let_on (begins_expression stack) stack (start_of ts b))
let_begins ts from levels stack b n h e = chosen (Fits ts from levels b) (begins_expression stack) _ _
    (λ free. λ ltb-true. record {
      a = b;
      n = n;
      below = h;
      read = (
        record {
          m = n - 1;
          opens = record { level = room ts from levels stack b n h (omega (arith, ltb-true)); begin = refl; token = e };
          free = begins_free stack free;
        },
        refl,
      );
    })
    (λ _. tt)

none_parentheses : (ts : List Lexeme) (from levels : ℕ) (stack : List Frame) (b m : ℕ) → Holds ts from levels stack b m → IsAt ts b symbols.CloseParenthesis
    → Fits ts from levels b (none_in_parentheses stack (end_of ts b))
none_parentheses ts from levels (frames.Arguments called [] ∷ stack) b m h e =
    let f = h.frame in
    let whole = values_spelled ts called.name.text [] h.n m f.at b b (b + 1) f.plain f.level f.opens f.list (list_none ts m b) e refl in
    λ _. record { a = h.a; n = h.n; below = h.below; read = called_with ts h.n called (args.Values []) h.a f.at (b + 1) b f.call whole refl }
none_parentheses ts from levels stack b m h e = tt

none_braces : (ts : List Lexeme) (from levels : ℕ) (stack : List Frame) (b m : ℕ) → Holds ts from levels stack b m → IsAt ts b symbols.CloseBrace
    → Fits ts from levels b (none_in_braces stack (end_of ts b))
none_braces ts from levels (frames.Elements start kind [] ∷ stack) b m h e =
    let span = from_to start (end_of ts b) in
    let o = h.frame.0 in
    let at = span_to ts start h.a b (b + 1) o.begin refl in
    let whole = coll_spelled ts kind [] span h.n m h.a (h.a + 1) b b (b + 1) o.token refl o.level h.frame.1 h.frame.2 (list_none ts m b) e refl at in
    λ _. record { a = h.a; n = h.n; below = h.below; read = base_first ts h.n (exprs.Coll kind [] span) span h.a (b + 1) whole (coll_binding ts kind [] span) at }
none_braces ts from levels stack b m h e = tt

pub one_span : (ts : List Lexeme) (b : ℕ) → here ts b ≡ span_at ts b (b + 1)
one_span ts b = span_to ts (start_of ts b) b b (b + 1) refl refl

one_token : (ts : List Lexeme) (from levels : ℕ) (stack : List Frame) (e : Expr) (b n : ℕ) → Holds ts from levels stack b n → spelled ts n e b ≡ Some (b + 1)
    → binding ts e ≡ 10
    → Fits ts from levels b (behind_base stack e (here ts b))
one_token ts from levels stack e b n h whole tight = λ _. record { a = b; n = n; below = h; read = base_first ts n e (here ts b) b (b + 1) whole tight (one_span ts b) }

pub operand_fits : (ts : List Lexeme) (from levels : ℕ) (stack : List Frame) (s : Symbol) (b n : ℕ) → Holds ts from levels stack b n → IsAt ts b s
    → Fits ts from levels b (operand stack s (here ts b))
operand_fits ts from levels stack symbols.Let b n h e = let_begins ts from levels stack b n h e
operand_fits ts from levels stack symbols.If b n h e = λ ltb-true. (
  n - 1,
  record {
    a = b;
    n = n;
    below = h;
    fits = floor_most stack;
    frame = (record { level = room ts from levels stack b n h (omega (arith, ltb-true)); begin = refl; token = e }, refl);
  },
)
operand_fits ts from levels stack symbols.Not b n h e = λ ltb-true. (
  n - 1,
  record {
    a = b;
    n = n;
    below = h;
    fits = floor_most stack;
    frame = (record { level = room ts from levels stack b n h (omega (arith, ltb-true)); begin = refl; token = e }, refl);
  },
)
operand_fits ts from levels stack (symbols.Operator operators.Minus) b n h e = λ ltb-true. (
  n - 1,
  record {
    a = b;
    n = n;
    below = h;
    fits = floor_most stack;
    frame = (record { level = room ts from levels stack b n h (omega (arith, ltb-true)); begin = refl; token = e }, refl);
  },
)
operand_fits ts from levels stack symbols.OpenParenthesis b n h e = λ ltb-true. (
  n - 1,
  record {
    a = b;
    n = n;
    below = h;
    fits = floor_most stack;
    frame = (record { level = room ts from levels stack b n h (omega (arith, ltb-true)); begin = refl; token = e }, refl);
  },
)
operand_fits ts from levels stack symbols.Null b n h e =
    one_token ts from levels stack (exprs.Null (here ts b)) b n h (null_spelled ts (here ts b) n b e (one_span ts b)) (null_binding ts (here ts b))
operand_fits ts from levels stack symbols.Invalid b n h e =
    one_token ts from levels stack (exprs.Invalid (here ts b)) b n h (invalid_spelled ts (here ts b) n b e (one_span ts b)) (invalid_binding ts (here ts b))
operand_fits ts from levels stack (symbols.Bool value) b n h e =
    one_token ts from levels stack (exprs.Bool value (here ts b)) b n h (constant_spelled ts value (here ts b) n b e (one_span ts b))
    (constant_binding ts value (here ts b))
operand_fits ts from levels stack (symbols.Number value) b n h e =
    one_token ts from levels stack (exprs.Number value (here ts b)) b n h (number_spelled ts value (here ts b) n b e (one_span ts b)) (number_binding ts value (here ts b))
operand_fits ts from levels stack (symbols.Str value) b n h e =
    one_token ts from levels stack (exprs.Str value (here ts b)) b n h (string_spelled ts value (here ts b) n b e (one_span ts b)) (string_binding ts value (here ts b))
operand_fits ts from levels stack (symbols.Name name) b n h e = λ _. record { a = b; n = n; below = h; read = path_one ts 3 name b (omega arith) e }
operand_fits ts from levels stack (symbols.Kind kind) b n h e = λ _. record { a = b; n = n; below = h; read = (refl, e, refl) }
operand_fits ts from levels stack symbols.CloseParenthesis b n h e = none_parentheses ts from levels stack b n h e
operand_fits ts from levels stack symbols.CloseBrace b n h e = none_braces ts from levels stack b n h e
operand_fits ts from levels stack s b n h e = tt

-- ---- a call begins

pub arguments_fit : (ts : List Lexeme) (from levels : ℕ) (stack : List Frame) (called : CallHead) (a b n : ℕ) → Holds ts from levels stack a n → CalledAt ts n called a b
    → IsAt ts b symbols.OpenParenthesis
    → Fits ts from levels b (arguments stack called)
arguments_fit ts from levels stack called a b n h p e = chosen (Fits ts from levels b) (takes_class called.name.text) _ _
    (λ class. λ ltb-true. record {
      a = a;
      n = n;
      below = h;
      read =
          record { class = class; call = record { m = n - 1; level = room ts from levels stack a n h (omega (arith, ltb-true)); at = b; call = p; opens = e; end = refl } };
    })
    (λ plain. λ ltb-true. (
      n - 1,
      record {
        a = a;
        n = n;
        below = h;
        fits = floor_most stack;
        frame = record { level = room ts from levels stack a n h (omega (arith, ltb-true)); at = b; call = p; plain = plain; opens = e; list = refl };
      },
    ))

-- ---- paths

pub path_spelled : (ts : List Lexeme) (most : ℕ) (p : Path) (a b : ℕ) → PathAt ts most p a b → (m : ℕ) → path ts most p m a ≡ Some b
path_spelled ts most p a b h m =
    ap (λ (s : Span). path ts most (record { names = p.names; span = s }) m a) h.span ∙ path_whole ts most p.names a b h.some h.few h.names m

one_more : (b : Bool) (a c : ℕ) → option_and_then (λ (x : ℕ). Some x) (if b then Some (a + 1) else None) ≡ Some c → (b ≡ true) × (c ≡ a + 1)
one_more true a c e = (refl, the_same (a + 1) c e)
  where
    the_same : (x y : ℕ) → Some x ≡ Some y → y ≡ x
    the_same x y h = cc
one_more false a c e = absurd (apart c e)
  where
    apart : (y : ℕ) → None ≡ Some y → ⊥
    apart y h = cc

-- a path of one name is that name
one_name : (ts : List Lexeme) (name : Name) (a b : ℕ) → names ts (name ∷ []) 0 a ≡ Some b → IsNamed ts name a × (b ≡ a + 1)
unfolding names separated each
one_name ts name a b e = one_more (stands (is_name name) ts a) a b e

named_fits : (ts : List Lexeme) (from levels : ℕ) (stack : List Frame) (p : Path) (s : Symbol) (a b n : ℕ) → Holds ts from levels stack a n → PathAt ts 3 p a b
    → IsAt ts b s
    → Fits ts from levels b (after_path stack p s (here ts b))
named_fits ts from levels stack p s a b n h r e =
    after_fits ts from levels stack (base_of (exprs.Named p) p.span) s a b n h
    (base_first ts n (exprs.Named p) p.span a b (named_spelled ts p n a b (path_spelled ts 3 p a b r)) (named_binding ts p) r.span) e

longer_fits : (ts : List Lexeme) (from levels : ℕ) (ns : List Name) (stack : List Frame) (p : Path) (a b n : ℕ) → p.names ≡ ns → Holds ts from levels stack a n
    → PathAt ts 3 p a b → IsAt ts b symbols.DoubleColon
    → Fits ts from levels b (if nat_lt (length ns) 3 then to stack (states.PathName p) else after_path stack p symbols.DoubleColon (here ts b))
longer_fits ts from levels ns stack p a b n same h r e = chosen (Fits ts from levels b) (nat_lt (length ns) 3) _ _
    (λ less. λ _. record {
      a = a;
      n = n;
      below = h;
      read = record { at = b; room = subst (λ (xs : List Name). length xs < 3) (sym same) (ltb-true (length ns) 3 less); shorter = r; sign = e; end = refl };
    })
    (λ _. named_fits ts from levels stack p symbols.DoubleColon a b n h r e)

path_by_fits : (ts : List Lexeme) (from levels : ℕ) (ns : List Name) (stack : List Frame) (p : Path) (s : Symbol) (a b n : ℕ) → p.names ≡ ns
    → Holds ts from levels stack a n → PathAt ts 3 p a b → IsAt ts b s
    → Fits ts from levels b (path_by ns stack p s (here ts b))
path_by_fits ts from levels (name ∷ []) stack p symbols.OpenParenthesis a b n same h r e =
    arguments_fit ts from levels stack (call_of name) a b n h (one_name ts name a b (ap (λ (xs : List Name). names ts xs 0 a) (sym same) ∙ r.names 0)) e
path_by_fits ts from levels ns stack p symbols.DoubleColon a b n same h r e = longer_fits ts from levels ns stack p a b n same h r e
path_by_fits ts from levels ns stack p s a b n same h r e = named_fits ts from levels stack p s a b n h r e

pub path_fits : (ts : List Lexeme) (from levels : ℕ) (stack : List Frame) (p : Path) (s : Symbol) (a b n : ℕ) → Holds ts from levels stack a n → PathAt ts 3 p a b
    → IsAt ts b s
    → Fits ts from levels b (on_path stack p s (here ts b))
path_fits ts from levels stack p s a b n h r e = path_by_fits ts from levels p.names stack p s a b n refl h r e

-- ---- a name behind a `.`

property_at : (ts : List Lexeme) (n : ℕ) (base : Base) (start : ℕ) (name : Name) (a b : ℕ) → StepAt ts n (codes ".") base start name a b
    → BaseAt ts n (with_postfix base (postfixes.Property name) name.span.end) a b
property_at ts n base start name a b h =
    let one = property_spelled ts name n h.at b h.sign h.named h.end in
    subst (λ (x : ℕ). BaseAt ts n (with_postfix base (postfixes.Property name) x) a b) (sym (name_spans ts name (h.at + 1) h.named).ends)
    (step_added ts n base (postfixes.Property name) a h.at b (h.at + 1) h.subtree one h.end)

pub dotted_fits : (ts : List Lexeme) (from levels : ℕ) (stack : List Frame) (base : Base) (start : ℕ) (name : Name) (s : Symbol) (a b n : ℕ)
    → Holds ts from levels stack a n
    → StepAt ts n (codes ".") base start name a b → IsAt ts b s → Fits ts from levels b (dotted stack base start name s (here ts b))
dotted_fits ts from levels stack base start name symbols.OpenParenthesis a b n h r e =
    arguments_fit ts from levels stack (record { before = before.Dot base start; name = name }) a b n h r e
dotted_fits ts from levels stack base start name s a b n h r e =
    after_fits ts from levels stack (with_postfix base (postfixes.Property name) name.span.end) s a b n h (property_at ts n base start name a b r) e
