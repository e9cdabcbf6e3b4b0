-- Symbols behind an expression: operators, and what closes or goes on with the innermost open construct.
use Rattle.std.proofs.Common.{◌≡◌, ℕ, ◌+◌, ◌-◌, ◌≤◌, true, false, List, [], ◌∷◌, ◌++◌, Option, Some, ap, sym, ◌∙◌, refl, arith}
use Rattle.std.specs.Prelude.{◌==◌}
use Rattle.std.proofs.lemmas.Bool.Decides.{nat_tests}
use Rattle.ql_lex.specs.Lexed.{Lexeme}
use Rattle.qv_syntax.specs.declared.name.Name.{Name}
use Rattle.qv_syntax.specs.declared.operator.Operator.{Operator}
use Rattle.qv_syntax.specs.declared.type_tree.Kind.{Kind}
use Rattle.qv_syntax.specs.declared.type_tree.TypeTree.{TypeTree}
use Rattle.qv_syntax.specs.declared.expr.Expr.{Expr}
use Rattle.qv_syntax.specs.declared.expr.Expr.TheVariants as exprs
use Rattle.qv_syntax.specs.declared.expr.Infix.{Infix}
use Rattle.qv_syntax.specs.declared.expr.Postfix.TheVariants as postfixes
use Rattle.qv_syntax.specs.declared.expr.Args.TheVariants as args
use Rattle.qv_syntax.specs.Operators.{level_of}
use Rattle.ql_lex.specs.Lexemes.{stands, end_of}
use Rattle.ocl_parser.specs.Grammar.{binding, spelled, are_of_level}
use Rattle.ocl_parser.specs.Moves.{Move, Reduced, reduced, from_to, infixed, operator_on, close_by, closed, ended_by, after, subtree_of, open_levels, state_levels}
use Rattle.ql_lex.specs.declared.symbol.Symbol.{Symbol}
use Rattle.ql_lex.specs.declared.symbol.Symbol.TheVariants as symbols
use Rattle.ocl_parser.specs.declared.frame.Subtree.{Subtree}
use Rattle.ocl_parser.specs.declared.frame.Base.{Base}
use Rattle.ocl_parser.specs.declared.frame.CallHead.{CallHead}
use Rattle.ocl_parser.specs.declared.frame.Iterated.{Iterated}
use Rattle.ocl_parser.specs.declared.frame.Frame.{Frame}
use Rattle.ocl_parser.specs.declared.frame.Frame.TheVariants as frames
use Rattle.ocl_parser.specs.declared.state.Action.{Action}
use Rattle.ocl_parser.specs.declared.state.Action.TheVariants as actions
use Rattle.ocl_parser.proofs.ExprLaws.{parens_spelled, parens_binding, if_spelled, if_binding, coll_spelled, coll_binding}
use Rattle.ocl_parser.proofs.StepLaws.{values_spelled, iterator_spelled, links_none, level_none, level_more}
use Rattle.ocl_parser.proofs.SymbolLaws.{test_of}
use Rattle.ocl_parser.proofs.SoundStacks.{here, PartAt, BaseAt, RowAt, Holds, StateAt, floor}
use Rattle.ocl_parser.proofs.SoundReduced.{level_most, waits, floor_most, levels_open, span_to, ReducedAt, reduced_holds, links_longer, chosen}
use Rattle.ocl_parser.proofs.SoundParts.{start_is, list_one_more, list_comma, base_first, step_added, called_with, part_at}

-- ---- what a move has to keep

-- what comes of the token of number `at`: the next state holds what was read with it, or the whole ends before it
abbrev pub OutcomeFits : List Lexeme → ℕ → ℕ → ℕ → List Frame → Action → Type 0
OutcomeFits ts from levels at stack (actions.Read state) = open_levels stack + state_levels state ≤ levels → StateAt ts from levels stack state (at + 1)
OutcomeFits ts from levels at stack (actions.Whole tree) = spelled ts levels tree from ≡ Some at
OutcomeFits ts from levels at stack actions.Refused = Unit {0}

abbrev pub Fits : List Lexeme → ℕ → ℕ → ℕ → Move → Type 0
Fits ts from levels at mv = OutcomeFits ts from levels at mv.stack mv.action

-- the token of this number passes the symbol's test; behind the last token no more is known
abbrev pub IsAt : List Lexeme → ℕ → Symbol → Type 0
IsAt ts at symbols.Other = Unit {0}
IsAt ts at s = stands (test_of s) ts at ≡ true

-- where one more level may be opened
pub room : (ts : List Lexeme) (from levels : ℕ) (stack : List Frame) (b n : ℕ) → Holds ts from levels stack b n → 1 + open_levels stack ≤ levels → n ≡ n - 1 + 1
room ts from levels stack b n h e = omega (arith, levels_open ts from levels stack b n h, e)

-- ---- operators

row_begins : (ts : List Lexeme) (from levels : ℕ) (operator : Operator) (stack : List Frame) (subtree : Subtree) (b c m : ℕ) → Holds ts from levels stack b m
    → PartAt ts m subtree b c → floor stack ≤ level_of operator
    → level_of operator + 1 ≤ binding ts subtree.tree → IsAt ts c (symbols.Operator operator) → Holds ts from levels (frames.Row subtree [] operator ∷ stack) (c + 1) m
row_begins ts from levels operator stack subtree b c m h p low tight e = record {
  a = b;
  n = m;
  below = h;
  fits = low;
  frame = record {
    level = refl;
    begin = start_is ts subtree.span b c p.span;
    second = c;
    at = c;
    subtree = p.whole;
    tight = omega (arith, tight);
    infixes = links_none ts m c;
    even = level_none ts (level_of operator);
    sign = e;
    end = refl;
  };
}

equal : (a b : ℕ) → (a == b) ≡ true → a ≡ b
equal a b e = grind (arith, nat_tests)

unequal : (a b : ℕ) → (a == b) ≡ false → a + 1 ≤ b + 1 → a + 1 ≤ b
unequal a b e h = grind (arith, nat_tests)

row_goes_on : (ts : List Lexeme) (first : Subtree) (rest : List Infix) (waiting operator : Operator) (subtree : Subtree) (n m a b c : ℕ) → RowAt ts first rest waiting n m a b
    → PartAt ts m subtree b c
    → level_of waiting ≡ level_of operator → level_of operator + 1 ≤ binding ts subtree.tree → IsAt ts c (symbols.Operator operator)
    → RowAt ts first (rest ++ infixed waiting subtree.tree ∷ []) operator n m a (c + 1)
row_goes_on ts first rest waiting operator subtree n m a b c row p same tight e = record {
  level = row.level;
  begin = row.begin;
  second = row.second;
  at = c;
  subtree = row.subtree;
  tight = omega (arith, row.tight, same);
  infixes = links_longer ts first rest waiting n m a b c subtree row p;
  even = level_more ts (level_of operator) rest waiting subtree.tree (ap (λ (x : ℕ). are_of_level ts x rest) (sym same) ∙ row.even) same (omega (arith, tight));
  sign = e;
  end = refl;
}

pub operator_fits : (ts : List Lexeme) (from levels : ℕ) (operator : Operator) (stack : List Frame) (subtree : Subtree) (b c m : ℕ) → Holds ts from levels stack b m
    → PartAt ts m subtree b c
    → waits stack ≤ level_of operator + 1 → level_of operator + 1 ≤ binding ts subtree.tree → IsAt ts c (symbols.Operator operator)
    → Fits ts from levels c (operator_on operator stack subtree)
operator_fits ts from levels operator [] subtree b c m h p low tight e = λ _. (m, row_begins ts from levels operator [] subtree b c m h p (omega arith) tight e)
operator_fits ts from levels operator (frames.Row first rest waiting ∷ stack) subtree b c m h p low tight e =
    chosen (Fits ts from levels c) (level_of waiting == level_of operator) _ _
    (λ same. λ _. (
      m,
      record {
        a = h.a;
        n = h.n;
        below = h.below;
        fits = omega (arith, h.fits, equal (level_of waiting) (level_of operator) same);
        frame = row_goes_on ts first rest waiting operator subtree h.n m h.a b c h.frame p (equal (level_of waiting) (level_of operator) same) tight e;
      },
    ))
    (λ apart. λ _. (
      m,
      row_begins ts from levels operator (frames.Row first rest waiting ∷ stack) subtree b c m h p
          (unequal (level_of waiting) (level_of operator) apart low) tight e,
    ))
operator_fits ts from levels operator (frames.Not start ∷ stack) subtree b c m h p low tight e =
    λ _. (m, row_begins ts from levels operator (frames.Not start ∷ stack) subtree b c m h p (omega (arith, low)) tight e)
operator_fits ts from levels operator (frames.Negated start ∷ stack) subtree b c m h p low tight e =
    λ _. (m, row_begins ts from levels operator (frames.Negated start ∷ stack) subtree b c m h p (omega (arith, low)) tight e)
operator_fits ts from levels operator (frame ∷ stack) subtree b c m h p low tight e =
    λ _. (m, row_begins ts from levels operator (frame ∷ stack) subtree b c m h p (omega arith) tight e)

-- ---- what closes, or goes on with, what is open

spelled_from : (ts : List Lexeme) (m : ℕ) (e : Expr) (b d c : ℕ) → b ≡ d → spelled ts m e b ≡ Some c → spelled ts m e d ≡ Some c
spelled_from ts m e b d c same h = ap (λ (x : ℕ). spelled ts m e x) (sym same) ∙ h

parens_close : (ts : List Lexeme) (from levels start : ℕ) (stack : List Frame) (subtree : Subtree) (b c m : ℕ) → Holds ts from levels (frames.Parens start ∷ stack) b m
    → PartAt ts m subtree b c → IsAt ts c symbols.CloseParenthesis
    → Fits ts from levels c (close_by (frames.Parens start ∷ stack) subtree symbols.CloseParenthesis (here ts c))
parens_close ts from levels start stack subtree b c m h p e =
    let span = from_to start (end_of ts c) in
    let o = h.frame.0 in
    let at = span_to ts start h.a c (c + 1) o.begin refl in
    let whole = parens_spelled ts subtree.tree span h.n m h.a b c (c + 1) o.level o.token h.frame.1 p.whole e refl at in
    λ _. record { a = h.a; n = h.n; below = h.below; read = base_first ts h.n (exprs.Parens subtree.tree span) span h.a (c + 1) whole (parens_binding ts subtree.tree span) at }

arguments_close : (ts : List Lexeme) (from levels : ℕ) (called : CallHead) (values : List Expr) (stack : List Frame) (subtree : Subtree) (b c m : ℕ)
    → Holds ts from levels (frames.Arguments called values ∷ stack) b m → PartAt ts m subtree b c
    → IsAt ts c symbols.CloseParenthesis → Fits ts from levels c (close_by (frames.Arguments called values ∷ stack) subtree symbols.CloseParenthesis (here ts c))
arguments_close ts from levels called values stack subtree b c m h p e =
    let f = h.frame in
    let list = list_one_more ts m values subtree.tree (f.at + 1) b c f.list p.whole in
    let whole = values_spelled ts called.name.text (values ++ subtree.tree ∷ []) h.n m f.at (f.at + 1) c (c + 1) f.plain f.level f.opens refl list e refl in
    λ _. record { a = h.a; n = h.n; below = h.below; read = called_with ts h.n called (args.Values (values ++ subtree.tree ∷ [])) h.a f.at (c + 1) c f.call whole refl }

arguments_go_on : (ts : List Lexeme) (from levels : ℕ) (called : CallHead) (values : List Expr) (stack : List Frame) (subtree : Subtree) (b c m : ℕ)
    → Holds ts from levels (frames.Arguments called values ∷ stack) b m → PartAt ts m subtree b c
    → IsAt ts c symbols.Comma → Fits ts from levels c (close_by (frames.Arguments called values ∷ stack) subtree symbols.Comma (here ts c))
arguments_go_on ts from levels called values stack subtree b c m h p e =
    let f = h.frame in
    let list = list_one_more ts m values subtree.tree (f.at + 1) b c f.list p.whole in
    λ _. (
      m,
      record {
        a = h.a;
        n = h.n;
        below = h.below;
        fits = h.fits;
        frame = record { level = f.level; at = f.at; call = f.call; plain = f.plain; opens = f.opens; list = list_comma ts m values subtree.tree (f.at + 1) c list e };
      },
    )

elements_close : (ts : List Lexeme) (from levels start : ℕ) (kind : Kind) (elements : List Expr) (stack : List Frame) (subtree : Subtree) (b c m : ℕ)
    → Holds ts from levels (frames.Elements start kind elements ∷ stack) b m → PartAt ts m subtree b c
    → IsAt ts c symbols.CloseBrace → Fits ts from levels c (close_by (frames.Elements start kind elements ∷ stack) subtree symbols.CloseBrace (here ts c))
elements_close ts from levels start kind elements stack subtree b c m h p e =
    let span = from_to start (end_of ts c) in
    let o = h.frame.0 in
    let all = elements ++ subtree.tree ∷ [] in
    let list = list_one_more ts m elements subtree.tree (h.a + 1 + 1) b c h.frame.2 p.whole in
    let at = span_to ts start h.a c (c + 1) o.begin refl in
    let whole = coll_spelled ts kind all span h.n m h.a (h.a + 1) (h.a + 1 + 1) c (c + 1) o.token refl o.level h.frame.1 refl list e refl at in
    λ _. record { a = h.a; n = h.n; below = h.below; read = base_first ts h.n (exprs.Coll kind all span) span h.a (c + 1) whole (coll_binding ts kind all span) at }

elements_go_on : (ts : List Lexeme) (from levels start : ℕ) (kind : Kind) (elements : List Expr) (stack : List Frame) (subtree : Subtree) (b c m : ℕ)
    → Holds ts from levels (frames.Elements start kind elements ∷ stack) b m → PartAt ts m subtree b c
    → IsAt ts c symbols.Comma → Fits ts from levels c (close_by (frames.Elements start kind elements ∷ stack) subtree symbols.Comma (here ts c))
elements_go_on ts from levels start kind elements stack subtree b c m h p e =
    let list = list_one_more ts m elements subtree.tree (h.a + 1 + 1) b c h.frame.2 p.whole in
    λ _. (m, record { a = h.a; n = h.n; below = h.below; fits = h.fits; frame = (h.frame.0, h.frame.1, list_comma ts m elements subtree.tree (h.a + 1 + 1) c list e) })

body_close : (ts : List Lexeme) (from levels : ℕ) (it : Iterated) (ty : Option TypeTree) (stack : List Frame) (subtree : Subtree) (b c m : ℕ)
    → Holds ts from levels (frames.Body it ty ∷ stack) b m → PartAt ts m subtree b c
    → IsAt ts c symbols.CloseParenthesis → Fits ts from levels c (close_by (frames.Body it ty ∷ stack) subtree symbols.CloseParenthesis (here ts c))
body_close ts from levels it ty stack subtree b c m h p e =
    let span = from_to it.start (end_of ts c) in
    let f = h.frame in
    let s = f.step in
    let at = span_to ts it.start s.at c (c + 1) s.begin refl in
    let one = iterator_spelled ts it.name it.variable ty subtree.tree span h.n m s.at f.at b c (c + 1) f.level s.sign s.named s.end f.variable p.whole e refl at in
    λ _. record {
      a = h.a;
      n = h.n;
      below = h.below;
      read = step_added ts h.n it.base (postfixes.Iterator it.name it.variable ty subtree.tree span) h.a s.at
          (c + 1) c s.subtree one refl;
    }

if_goes_on : (ts : List Lexeme) (from levels start : ℕ) (stack : List Frame) (subtree : Subtree) (b c m : ℕ) → Holds ts from levels (frames.If start ∷ stack) b m
    → PartAt ts m subtree b c → IsAt ts c symbols.Then
    → Fits ts from levels c (close_by (frames.If start ∷ stack) subtree symbols.Then (here ts c))
if_goes_on ts from levels start stack subtree b c m h p e =
    λ _. (
      m,
      record {
        a = h.a;
        n = h.n;
        below = h.below;
        fits = h.fits;
        frame = (h.frame.0, record { at = c; subtree = spelled_from ts m subtree.tree b (h.a + 1) c h.frame.1 p.whole; word = e; end = refl });
      },
    )

then_goes_on : (ts : List Lexeme) (from levels start : ℕ) (condition : Expr) (stack : List Frame) (subtree : Subtree) (b c m : ℕ)
    → Holds ts from levels (frames.Then start condition ∷ stack) b m → PartAt ts m subtree b c → IsAt ts c symbols.Else
    → Fits ts from levels c (close_by (frames.Then start condition ∷ stack) subtree symbols.Else (here ts c))
then_goes_on ts from levels start condition stack subtree b c m h p e =
    λ _. (
      m,
      record {
        a = h.a;
        n = h.n;
        below = h.below;
        fits = h.fits;
        frame = (h.frame.0, record { from = b; at = c; before = h.frame.1; subtree = p.whole; word = e; end = refl });
      },
    )

else_closes : (ts : List Lexeme) (from levels start : ℕ) (condition one : Expr) (stack : List Frame) (subtree : Subtree) (b c m : ℕ)
    → Holds ts from levels (frames.Else start condition one ∷ stack) b m → PartAt ts m subtree b c → IsAt ts c symbols.Endif
    → Fits ts from levels c (close_by (frames.Else start condition one ∷ stack) subtree symbols.Endif (here ts c))
else_closes ts from levels start condition one stack subtree b c m h p e =
    let span = from_to start (end_of ts c) in
    let o = h.frame.0 in
    let f = h.frame.1 in
    let t = f.before in
    let at = span_to ts start h.a c (c + 1) o.begin refl in
    let whole = if_spelled ts condition one subtree.tree span h.n m h.a t.at f.at c (c + 1) o.level o.token t.subtree t.word
    (spelled_from ts m one f.from (t.at + 1) f.at t.end f.subtree)
    f.word (spelled_from ts m subtree.tree b (f.at + 1) c f.end p.whole) e refl at in
    λ _. record {
      a = h.a;
      n = h.n;
      below = h.below;
      read = base_first ts h.n (exprs.If condition one subtree.tree span) span h.a (c + 1) whole
          (if_binding ts condition one subtree.tree span) at;
    }

let_goes_on : (ts : List Lexeme) (from levels start : ℕ) (name : Name) (ty : TypeTree) (stack : List Frame) (subtree : Subtree) (b c m : ℕ)
    → Holds ts from levels (frames.Let start name ty ∷ stack) b m → PartAt ts m subtree b c → IsAt ts c symbols.In
    → Fits ts from levels c (close_by (frames.Let start name ty ∷ stack) subtree symbols.In (here ts c))
let_goes_on ts from levels start name ty stack subtree b c m h p e =
    λ _. (
      m,
      record {
        a = h.a;
        n = h.n;
        below = h.below;
        fits = h.fits;
        frame = (h.frame.0, record { from = b; to = c; head = h.frame.1; subtree = p.whole; word = e; end = refl });
      },
    )

pub close_fits : (ts : List Lexeme) (from levels : ℕ) (stack : List Frame) (subtree : Subtree) (s : Symbol) (b c m : ℕ) → Holds ts from levels stack b m
    → PartAt ts m subtree b c → IsAt ts c s
    → Fits ts from levels c (close_by stack subtree s (here ts c))
close_fits ts from levels [] subtree s b c m h p e = ap (λ (n : ℕ). spelled ts n subtree.tree from) (sym h.1) ∙ spelled_from ts m subtree.tree b from c h.0 p.whole
close_fits ts from levels (frames.Parens start ∷ stack) subtree symbols.CloseParenthesis b c m h p e = parens_close ts from levels start stack subtree b c m h p e
close_fits ts from levels (frames.Arguments called values ∷ stack) subtree symbols.CloseParenthesis b c m h p e =
    arguments_close ts from levels called values stack subtree b c m h p e
close_fits ts from levels (frames.Arguments called values ∷ stack) subtree symbols.Comma b c m h p e = arguments_go_on ts from levels called values stack subtree b c m h p e
close_fits ts from levels (frames.Elements start kind elements ∷ stack) subtree symbols.CloseBrace b c m h p e =
    elements_close ts from levels start kind elements stack subtree b c m h p e
close_fits ts from levels (frames.Elements start kind elements ∷ stack) subtree symbols.Comma b c m h p e =
    elements_go_on ts from levels start kind elements stack subtree b c m h p e
close_fits ts from levels (frames.Body it ty ∷ stack) subtree symbols.CloseParenthesis b c m h p e = body_close ts from levels it ty stack subtree b c m h p e
close_fits ts from levels (frames.If start ∷ stack) subtree symbols.Then b c m h p e = if_goes_on ts from levels start stack subtree b c m h p e
close_fits ts from levels (frames.Then start condition ∷ stack) subtree symbols.Else b c m h p e = then_goes_on ts from levels start condition stack subtree b c m h p e
close_fits ts from levels (frames.Else start condition one ∷ stack) subtree symbols.Endif b c m h p e =
    else_closes ts from levels start condition one stack subtree b c m h p e
close_fits ts from levels (frames.Let start name ty ∷ stack) subtree symbols.In b c m h p e = let_goes_on ts from levels start name ty stack subtree b c m h p e
close_fits ts from levels (frame ∷ stack) subtree s b c m h p e = tt

-- ---- behind an operand

reduced_fits : (ts : List Lexeme) (from levels level : ℕ) (s : Reduced) (symbol : Symbol) (c : ℕ) → ReducedAt ts from levels level s c → IsAt ts c symbol
    → Fits ts from levels c (closed s symbol (here ts c))
reduced_fits ts from levels level s symbol c h e = close_fits ts from levels s.stack s.subtree symbol h.b c h.m h.below h.subtree e

pub behind_fits : (ts : List Lexeme) (from levels : ℕ) (stack : List Frame) (subtree : Subtree) (s : Symbol) (a b n : ℕ) → Holds ts from levels stack a n
    → PartAt ts n subtree a b → 9 ≤ binding ts subtree.tree → IsAt ts b s
    → Fits ts from levels b (ended_by stack subtree s (here ts b))
behind_fits ts from levels stack subtree (symbols.Operator operator) a b n h p tight e =
    let level = level_of operator + 1 in
    let s = reduced_holds ts from levels level stack subtree a b n (omega (arith, level_most operator)) h p (omega (arith, floor_most stack, tight))
    (omega (arith, level_most operator, tight)) in
    let r = reduced level stack subtree in
    operator_fits ts from levels operator r.stack r.subtree s.b b s.m s.below s.subtree s.low s.high e
behind_fits ts from levels stack subtree s a b n h p tight e =
    reduced_fits ts from levels 0 (reduced 0 stack subtree) s b (reduced_holds ts from levels 0 stack subtree a b n (omega arith) h p
    (omega (arith, floor_most stack, tight)) (omega arith)) e

pub after_fits : (ts : List Lexeme) (from levels : ℕ) (stack : List Frame) (base : Base) (s : Symbol) (a b n : ℕ) → Holds ts from levels stack a n
    → BaseAt ts n base a b → IsAt ts b s
    → Fits ts from levels b (after stack base s (here ts b))
after_fits ts from levels stack base symbols.Dot a b n h p e =
    λ _. record { a = a; n = n; below = h; read = record { at = b; subtree = p; begin = refl; sign = e; end = refl } }
after_fits ts from levels stack base symbols.Arrow a b n h p e =
    λ _. record { a = a; n = n; below = h; read = record { at = b; subtree = p; begin = refl; sign = e; end = refl } }
after_fits ts from levels stack base s a b n h p e =
    let t = part_at ts n base a b p in
    behind_fits ts from levels stack (subtree_of base) s a b n h t.read t.tight e
