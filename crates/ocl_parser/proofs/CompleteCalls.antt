-- The tokens of collections and of arguments lead to them.
use Rattle.std.proofs.Common.{◌≡◌, ℕ, ◌+◌, ◌<◌, ◌≤◌, Bool, true, false, nat_lt, List, [], ◌∷◌, map, Some, ap, sym, ◌∙◌, refl, subst, arith}
use Rattle.std.specs.Prelude.{codes}
use Rattle.std.proofs.lemmas.Bool.Decides.{nat_tests}
use Rattle.mof_metamodel.specs.declared.span.Span.{Span}
use Rattle.ql_lex.specs.Lexed.{Lexeme}
use Rattle.qv_syntax.specs.declared.name.Name.{Name}
use Rattle.qv_syntax.specs.declared.name.Path.{Path}
use Rattle.qv_syntax.specs.declared.expr.Expr.{Expr}
use Rattle.qv_syntax.specs.declared.expr.Expr.TheVariants as exprs
use Rattle.qv_syntax.specs.declared.expr.Infix.{Infix}
use Rattle.qv_syntax.specs.declared.expr.Postfix.{Postfix}
use Rattle.qv_syntax.specs.declared.expr.Args.{Args}
use Rattle.qv_syntax.specs.declared.expr.Args.TheOpen as of
use Rattle.ocl_parser.specs.Pieces.{Piece, ◌▸◌, sign, word, name, nested}
use Rattle.ql_lex.specs.Lexemes.{stands, is_sign, is_word, is_name, span_at}
use Rattle.ocl_parser.specs.Grammar.{Form, InfixForm, Given, form, infix_form, postfix_piece, given, args_step, expr_step, postfix_step, infix_step}
use Rattle.ocl_parser.specs.Moves.{move, base_of, from_to, reduced, open_levels}
use Rattle.ql_lex.specs.declared.symbol.Symbol.{Symbol}
use Rattle.ql_lex.specs.declared.symbol.Symbol.TheVariants as symbols
use Rattle.ocl_parser.specs.declared.frame.Base.{Base}
use Rattle.ocl_parser.specs.declared.frame.Frame.{Frame}
use Rattle.ocl_parser.specs.declared.frame.Frame.TheVariants as frames
use Rattle.ocl_parser.specs.declared.state.State.{State}
use Rattle.ocl_parser.specs.declared.state.State.TheVariants as states
use Rattle.ocl_parser.proofs.SymbolLaws.{test_of, is_told}
use Rattle.ocl_parser.proofs.CompleteRuns.{going, step}
use Rattle.ocl_parser.proofs.CompletePieces.{held, within, token_first, bracketed}
use Rattle.std.specs.Prelude.{not}
use Rattle.qv_syntax.specs.declared.type_tree.Kind.{Kind}
use Rattle.qv_syntax.specs.declared.expr.Args.{roll-Args, map-Args, fold-roll-Args}
use Rattle.qv_syntax.specs.declared.expr.Args.TheVariants as args
use Rattle.ocl_parser.specs.Pieces.{separated}
use Rattle.ocl_parser.specs.Grammar.{args_for, takes_class, kind_word}
use Rattle.ocl_parser.specs.Moves.{arguments, with_args, path_of}
use Rattle.ql_lex.specs.Symbols.{symbol_of}
use Rattle.ocl_parser.specs.declared.frame.Before.{Before}
use Rattle.ocl_parser.specs.declared.frame.Before.TheVariants as before
use Rattle.ocl_parser.specs.declared.frame.CallHead.{CallHead}
use Rattle.ocl_parser.specs.declared.state.Action.TheVariants as actions
use Rattle.ocl_parser.proofs.SymbolLaws.{symbol_is}
use Rattle.ocl_parser.proofs.CompleteRuns.{stuck_at, told_at, going_on, there}
use Rattle.ocl_parser.proofs.CompletePaths.{name_span}
use Rattle.ocl_parser.proofs.CompleteLeading.{IsPlain, one_symbol}
use Rattle.ocl_parser.proofs.CompleteArguments.{arrow_of, class_between, class_given, class_behind_arrow, first_value}
use Rattle.ocl_parser.proofs.CompleteForms.{Reads, Reading, IsRead, by_span, atom, held_after}
use Rattle.ocl_parser.proofs.CompleteLists.{AllOf, Holder, list_read}
use Rattle.std.proofs.lemmas.Bool.{not-true}

-- ---- collections

elements : (start : ℕ) (kind : Kind) → Holder (frames.Elements start kind) symbols.CloseBrace
    (λ es span. base_of (exprs.Coll kind es (from_to start span.end)) (from_to start span.end))
unfolding reduced move
elements start kind = record {
  told = refl;
  ends = refl;
  fits = λ b vs stack. tt;
  one = λ vs stack. refl;
  stays = λ vs stack p. refl;
  goes_on = λ vs stack p span. refl;
  last = λ vs stack p span. refl;
  none = λ stack span. refl;
}

pub coll_read : (ts : List Lexeme) (kind : Kind) (es : List Expr) (span : Span) → AllOf (IsRead ts) es
    → Reading ts (expr_step ts (of.Coll kind (map (form ts) es) span)) (exprs.Coll kind es span)
unfolding move span_at
coll_read ts kind es span all =
    let list : Piece = separated ts (codes ",") (map (λ e. e.piece) (map (form ts) es)) in
    let body : Piece = sign ts (codes "{") ▸ list ▸ sign ts (codes "}") in
    by_span ts 10 (exprs.Coll kind es) span (word ts (kind_word kind) ▸ nested body) (λ levels n i j stack fit few e.
    let b = token_first (is_word (kind_word kind)) ts (nested body) n i j e in
    let c = within body n (i + 1) j b.1 in
    let m : ℕ = c.0 in
    let d = bracketed (is_sign (codes "{")) (is_sign (codes "}")) ts list m (i + 1) j c.2 in
    let k : ℕ = d.0 in
    let start : ℕ = (span_at ts i (i + 1)).start in
    let one = step levels ts (symbols.Kind kind) i stack stack states.Operand (states.Brace start kind) refl b.0 refl (omega (arith, few)) in
    let two = step levels ts symbols.OpenBrace (i + 1) stack (frames.Elements start kind [] ∷ stack) (states.Brace start kind) states.Operand refl d.1 refl
    (omega (arith, few, c.1)) in
    let r = list_read levels ts (frames.Elements start kind) symbols.CloseBrace
    (λ es span. base_of (exprs.Coll kind es (from_to start span.end)) (from_to start span.end)) (elements start kind) m (i + 1 + 1) k stack
    (omega (arith, few, c.1)) d.3 es all d.2 in
    let base : Base = base_of (exprs.Coll kind es (span_at ts i (k + 1))) (span_at ts i (k + 1)) in
    subst (λ (x : ℕ). Reads levels ts (exprs.Coll kind es (span_at ts i x)) 10 stack i x) (sym d.4)
    (atom levels ts (exprs.Coll kind es (span_at ts i (k + 1))) stack i (k + 1) (states.After base) (omega (arith, r.0)) (one ∙ two ∙ r.1) (held_after stack base)))

-- ---- values between parentheses

values_of : CallHead → List Expr → Span → Base
values_of called es span = with_args called (args.Values es) span.end

arguments_of : (called : CallHead) → Holder (frames.Arguments called) symbols.CloseParenthesis (values_of called)
unfolding reduced move values_of
arguments_of called = record {
  told = refl;
  ends = refl;
  fits = λ b vs stack. tt;
  one = λ vs stack. refl;
  stays = λ vs stack p. refl;
  goes_on = λ vs stack p span. refl;
  last = λ vs stack p span. refl;
  none = λ stack span. refl;
}

abbrev is_stuck : List Frame → State → Symbol → Type 0
is_stuck stack state s = (span : Span) → (move stack state s span).action ≡ actions.Refused

-- a run that goes on past a token was not stuck there
not_stuck : (levels : ℕ) (ts : List Lexeme) (s : Symbol) (stack more : List Frame) (state last : State) (i k : ℕ) → is_told s ≡ true → is_stuck stack state s
    → going levels ts stack state i ≡ going levels ts more last k → i < k → stands (test_of s) ts i ≡ false
not_stuck levels ts s stack more state last i k told stuck runs further = by (stands (test_of s) ts i) refl
  where
    by : (b : Bool) → stands (test_of s) ts i ≡ b → b ≡ false
    by true e =
        let t = there (test_of s) ts i e in
        let l : Lexeme = t.0 in
        let is : symbol_of l ≡ s = symbol_is s l told t.2 in
        let at = stuck_at levels ts l i stack state t.1 (ap (λ (x : Symbol). (move stack state x l.token.span).action) is ∙ stuck l.token.span) in
        let same : told_at (going levels ts more last k) ≡ i = ap told_at (sym runs ∙ at) in
        absurd (omega (arith, going_on levels ts more last k, same, further))
    by false e = refl

-- what stands behind a name with which the first value begins
plain_behind : (levels : ℕ) (ts : List Lexeme) (stack more : List Frame) (called : CallHead) (last : State) (v : Name) (i k : ℕ) → open_levels stack + 1 ≤ levels
    → going levels ts (frames.Arguments called [] ∷ stack) states.Operand i ≡ going levels ts more last k → i + 1 < k → stands (is_name v) ts i ≡ true
    → IsPlain ts (i + 1)
unfolding move reduced
plain_behind levels ts stack more called last v i k few runs further named =
    let inside : List Frame = frames.Arguments called [] ∷ stack in
    let one = step levels ts (symbols.Name v) i inside inside states.Operand (states.Path (path_of v)) refl named refl (omega (arith, few)) in (
      not_stuck levels ts symbols.Colon inside more (states.Path (path_of v)) last (i + 1) k refl (λ span. refl) (sym one ∙ runs) further,
      not_stuck levels ts symbols.Bar inside more (states.Path (path_of v)) last (i + 1) k refl (λ span. refl) (sym one ∙ runs) further,
    )

-- ---- arguments

abbrev pub called_on : Before → Name → CallHead
called_on b x = record { before = b; name = x }

-- the tokens from number i to j are read as the arguments of a call of this name
pub record ArgsReads (levels : ℕ) (ts : List Lexeme) (a : Args) (x : Name) (stack : List Frame) (i j : ℕ) : Type 0 where
  pub further : i < j
  pub plain : (b : Before) (state : State) → ((span : Span) → move stack state symbols.OpenParenthesis span ≡ arguments stack (called_on b x))
      → going levels ts stack state i ≡ going levels ts stack (states.After (with_args (called_on b x) a (span_at ts i j).end)) j
  pub arrow : (base : Base) (start : ℕ) → going levels ts stack (states.ArrowParenthesis base start x) i
      ≡ going levels ts stack (states.After (with_args (arrow_of base start x) a (span_at ts i j).end)) j

abbrev pub GivenReads : List Lexeme → Given → Args → Type 0
GivenReads ts g a = (levels n i j : ℕ) (stack : List Frame) (x : Name) → open_levels stack + n ≤ levels → args_for x.text g n i ≡ Some j
    → ArgsReads levels ts a x stack i j

abbrev pub AreArgsRead : List Lexeme → Args → Type 0
AreArgsRead ts a = GivenReads ts (given ts a) a

pub args_rolled : (ts : List Lexeme) (d : of.Args-F Args Expr Postfix Infix) (a : Args) → roll-Args d ≡ a
    → GivenReads ts (args_step ts (map-Args Args Expr Postfix Infix Given Form Piece InfixForm (given ts) (form ts) (postfix_piece ts) (infix_form ts) d)) a → AreArgsRead ts a
args_rolled ts d a h = subst (λ (g : Given). GivenReads ts g a)
    (sym (ap (given ts) (sym h) ∙ fold-roll-Args Given Form Piece InfixForm (args_step ts) (expr_step ts) (postfix_step ts) (infix_step ts) d))

end_at : (ts : List Lexeme) (i k : ℕ) → (span_at ts k (k + 1)).end ≡ (span_at ts i (k + 1)).end
unfolding span_at
end_at ts i k = refl

values_on : (levels : ℕ) (ts : List Lexeme) (es : List Expr) (x : Name) (stack : List Frame) (i k m : ℕ) → AllOf (IsRead ts) es → takes_class x.text ≡ false
    → open_levels stack + 1 + m ≤ levels
    → stands (is_sign (codes "(")) ts i ≡ true → separated ts (codes ",") (map (λ e. e.piece) (map (form ts) es)) m (i + 1) ≡ Some k
    → stands (is_sign (codes ")")) ts k ≡ true
    → ArgsReads levels ts (args.Values es) x stack i (k + 1)
unfolding move values_of
values_on levels ts es x stack i k m all takes few opens list closes =
    let r = λ (called : CallHead). list_read levels ts (frames.Arguments called) symbols.CloseParenthesis (values_of called) (arguments_of called) m (i + 1) k stack few
    closes es all list in
    let end = λ (called : CallHead). ap (λ (y : ℕ). going levels ts stack (states.After (with_args called (args.Values es) y)) (k + 1)) (end_at ts i k) in
    record {
      further = omega (arith, (r (called_on before.Nothing x)).0);
      plain = λ b state m'.
          let called : CallHead = called_on b x in
          let one = step levels ts symbols.OpenParenthesis i stack (frames.Arguments called [] ∷ stack) state states.Operand refl opens
          (m' (span_at ts i (i + 1)) ∙ rw takes refl) (omega (arith, few)) in
          one ∙ (r called).1 ∙ end called;
      arrow = λ base start.
          let called : CallHead = arrow_of base start x in
          let one = step levels ts symbols.OpenParenthesis i stack stack (states.ArrowParenthesis base start x) (states.ArrowFirst base start x) refl opens refl
          (omega (arith, few)) in
          let two = first_value levels ts stack base start x (i + 1) (omega (arith, few)) takes (λ v named. by called v named) in
          one ∙ two ∙ (r called).1 ∙ end called;
    }
  where
    by : (called : CallHead) (v : Name) → stands (is_name v) ts (i + 1) ≡ true → IsPlain ts (i + 1 + 1)
    by called v named = so (nat_lt (i + 1) k) refl
      where
        r : (i + 1 ≤ k) × (going levels ts (frames.Arguments called [] ∷ stack) states.Operand (i + 1)
            ≡ going levels ts stack (states.After (values_of called es (span_at ts k (k + 1)))) (k + 1))
        r = list_read levels ts (frames.Arguments called) symbols.CloseParenthesis (values_of called) (arguments_of called) m (i + 1) k stack few closes es all list

        so : (b : Bool) → nat_lt (i + 1) k ≡ b → IsPlain ts (i + 1 + 1)
        so true e =
            let less : i + 1 < k = grind (arith, nat_tests) in
            plain_behind levels ts stack stack called (states.After (values_of called es (span_at ts k (k + 1)))) v (i + 1) (k + 1) (omega (arith, few)) r.1
            (omega (arith, less)) named
        so false e =
            let none : k ≤ i + 1 = grind (arith, nat_tests) in
            let same : k ≡ i + 1 = omega (arith, r.0, none) in
            let both : symbols.Name v ≡ symbols.CloseParenthesis =
            one_symbol ts (i + 1) (symbols.Name v) symbols.CloseParenthesis refl refl named (rw (← same) closes) in
            cc

pub values_read : (ts : List Lexeme) (es : List Expr) → AllOf (IsRead ts) es → GivenReads ts (args_step ts (of.Values (map (form ts) es))) (args.Values es)
values_read ts es all levels n i j stack x few e =
    let list : Piece = separated ts (codes ",") (map (λ e. e.piece) (map (form ts) es)) in
    let body : Piece = sign ts (codes "(") ▸ list ▸ sign ts (codes ")") in
    let a = held (not (takes_class x.text)) (nested body) n i j e in
    let c = within body n i j a.1 in
    let d = bracketed (is_sign (codes "(")) (is_sign (codes ")")) ts list c.0 i j c.2 in
    subst (λ (y : ℕ). ArgsReads levels ts (args.Values es) x stack i y) (sym d.4)
    (values_on levels ts es x stack i d.0 c.0 all (not-true (takes_class x.text) a.0) (omega (arith, few, c.1)) d.1 d.2 d.3)

pub class_argument_read : (ts : List Lexeme) (p : Path) → GivenReads ts (args_step ts (of.Class p)) (args.Class p)
class_argument_read ts p levels n i j stack x few e =
    let a = held (takes_class x.text) (class_between ts p) n i j e in
    record {
      further = (class_behind_arrow levels ts stack (base_of (exprs.Named p) p.span) 0 x p n i j few a.0 a.1).0;
      plain = λ b state m. (class_given levels ts stack state (called_on b x) p n i j few a.0 m a.1).1;
      arrow = λ base start. (class_behind_arrow levels ts stack base start x p n i j few a.0 a.1).1;
    }

-- a call of a name
pub call_read : (ts : List Lexeme) (x : Name) (a : Args) (span : Span) → AreArgsRead ts a
    → Reading ts (expr_step ts (of.Call x (given ts a) span)) (exprs.Call x a span)
unfolding move span_at
call_read ts x a span ih =
    by_span ts 10 (exprs.Call x a) span (name ts x ▸ args_for x.text (given ts a)) (λ levels n i j stack fit few e.
    let b = token_first (is_name x) ts (args_for x.text (given ts a)) n i j e in
    let one = step levels ts (symbols.Name x) i stack stack states.Operand (states.Path (path_of x)) refl b.0 refl (omega (arith, few)) in
    let r = ih levels n (i + 1) j stack x few b.1 in
    let two = r.plain before.Nothing (states.Path (path_of x)) (λ span. refl) in
    let at = λ (s : Span). base_of (exprs.Call x a (from_to s.start (span_at ts (i + 1) j).end)) (from_to s.start (span_at ts (i + 1) j).end) in
    let three = ap (λ (s : Span). going levels ts stack (states.After (at s)) j) (name_span ts x i b.0) in
    atom levels ts (exprs.Call x a (span_at ts i j)) stack i j (states.After (at (span_at ts i (i + 1)))) (omega (arith, r.further)) (one ∙ two ∙ three)
    (held_after stack (at (span_at ts i (i + 1)))))
