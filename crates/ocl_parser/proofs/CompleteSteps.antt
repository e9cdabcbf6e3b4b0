-- The tokens of calls on a part lead to them.
use Rattle.std.proofs.Common.{◌≡◌, ℕ, ◌+◌, ◌<◌, ◌≤◌, Bool, true, ◌&&◌, nat_lt, nat_le, List, [], ◌∷◌, ◌++◌, length, map, Option, Some, ap, sym, ◌∙◌, refl, subst, arith}
use Rattle.std.specs.Prelude.{codes}
use Rattle.std.proofs.lemmas.Bool.Decides.{nat_tests}
use Rattle.mof_metamodel.specs.declared.span.Span.{Span}
use Rattle.ql_lex.specs.Lexed.{Lexeme}
use Rattle.qv_syntax.specs.declared.name.Name.{Name}
use Rattle.qv_syntax.specs.declared.type_tree.TypeTree.{TypeTree}
use Rattle.qv_syntax.specs.declared.expr.Expr.{Expr}
use Rattle.qv_syntax.specs.declared.expr.Expr.TheVariants as exprs
use Rattle.qv_syntax.specs.declared.expr.Infix.{Infix}
use Rattle.qv_syntax.specs.declared.expr.Postfix.{Postfix}
use Rattle.qv_syntax.specs.declared.expr.Args.{Args}
use Rattle.qv_syntax.specs.declared.expr.Args.TheOpen as of
use Rattle.ocl_parser.specs.Pieces.{Piece, ◌▸◌, token, sign, name, nested, spanned, only}
use Rattle.ql_lex.specs.Lexemes.{stands, is_sign, is_name, span_at}
use Rattle.ocl_parser.specs.Grammar.{Form, InfixForm, Given, form, infix_form, postfix_piece, given, args_step, expr_step, postfix_step, infix_step}
use Rattle.ocl_parser.specs.Moves.{move, base_of, reduced, open_levels}
use Rattle.ql_lex.specs.declared.symbol.Symbol.TheVariants as symbols
use Rattle.ocl_parser.specs.declared.frame.Base.{Base}
use Rattle.ocl_parser.specs.declared.frame.Frame.{Frame}
use Rattle.ocl_parser.specs.declared.frame.Frame.TheVariants as frames
use Rattle.ocl_parser.specs.declared.state.State.{State}
use Rattle.ocl_parser.specs.declared.state.State.TheVariants as states
use Rattle.ocl_parser.proofs.CompleteRuns.{going, step}
use Rattle.ocl_parser.proofs.CompletePieces.{parts, taken, held, at_span, within, token_first, token_last}
use Rattle.std.proofs.lemmas.Bool.{and_parts}
use Rattle.std.proofs.lemmas.List.{append_assoc, append-nil, length-map}
use Rattle.qv_syntax.specs.declared.expr.Postfix.{roll-Postfix, map-Postfix, fold-roll-Postfix}
use Rattle.qv_syntax.specs.declared.expr.Postfix.TheVariants as postfixes
use Rattle.ocl_parser.specs.Pieces.{each}
use Rattle.ocl_parser.specs.Grammar.{args_for, declared_variable}
use Rattle.ocl_parser.specs.Moves.{with_postfix, iterated_of}
use Rattle.ocl_parser.specs.declared.frame.Before.TheVariants as before
use Rattle.ocl_parser.proofs.CompletePaths.{name_span}
use Rattle.ocl_parser.proofs.CompleteHeads.{variable_read}
use Rattle.ocl_parser.proofs.CompleteForms.{Holds, Reads, Fits, Reading, IsRead, by_span, held_after, closing}
use Rattle.ocl_parser.proofs.CompleteLists.{AllOf}
use Rattle.ocl_parser.proofs.CompleteCalls.{AreArgsRead}

-- Behind a part with its calls so far, the tokens from number i to j are read as one more call.
pub record StepReads (levels : ℕ) (ts : List Lexeme) (s : Postfix) (base : Base) (stack : List Frame) (before : State) (i j : ℕ) : Type 0 where
  pub state : State
  pub further : i < j
  pub runs : going levels ts stack before i ≡ going levels ts stack state j
  pub holds : Holds stack state (with_postfix base s (span_at ts i j).end)

abbrev pub StepBy : List Lexeme → Piece → Postfix → Type 0
StepBy ts p s = (levels n i j : ℕ) (stack : List Frame) (state : State) (base : Base) → Holds stack state base → open_levels stack + n ≤ levels → p n i ≡ Some j
    → StepReads levels ts s base stack state i j

abbrev pub IsPostfixRead : List Lexeme → Postfix → Type 0
IsPostfixRead ts s = StepBy ts (postfix_piece ts s) s

pub step_rolled : (ts : List Lexeme) (d : of.Postfix-F Args Expr Postfix Infix) (s : Postfix) → roll-Postfix d ≡ s
    → StepBy ts (postfix_step ts (map-Postfix Args Expr Postfix Infix Given Form Piece InfixForm (given ts) (form ts) (postfix_piece ts) (infix_form ts) d)) s → IsPostfixRead ts s
step_rolled ts d s h = subst (λ (p : Piece). StepBy ts p s)
    (sym (ap (postfix_piece ts) (sym h) ∙ fold-roll-Postfix Given Form Piece InfixForm (args_step ts) (expr_step ts) (postfix_step ts) (infix_step ts) d))

held_dotted : (stack : List Frame) (base : Base) (start : ℕ) (x : Name) → Holds stack (states.Dotted base start x) (with_postfix base (postfixes.Property x) x.span.end)
unfolding move
held_dotted stack base start x symbols.OpenParenthesis span e = cc
held_dotted stack base start x s span e = refl

-- a sign and a name
head_parts : (passes : Lexeme → Bool) (ts : List Lexeme) (x : Name) (n i j : ℕ) → (token passes ts ▸ name ts x) n i ≡ Some j
    → (stands passes ts i ≡ true) × (stands (is_name x) ts (i + 1) ≡ true) × (j ≡ i + 1 + 1)
head_parts passes ts x n i j e =
    let a = token_first passes ts (name ts x) n i j e in
    let b = taken (is_name x) ts n (i + 1) j a.1 in
    (a.0, b.0, b.1)

pub property_read : (ts : List Lexeme) (x : Name) → StepBy ts (postfix_step ts (of.Property x)) (postfixes.Property x)
unfolding move span_at
property_read ts x levels n i j stack state base holds few e =
    let a = head_parts (is_sign (codes ".")) ts x n i j e in
    let start : ℕ = (span_at ts i (i + 1)).start in
    let one = step levels ts symbols.Dot i stack stack state (states.DotName base start) refl a.0 (holds symbols.Dot (span_at ts i (i + 1)) refl)
    (omega (arith, few)) in
    let two = step levels ts (symbols.Name x) (i + 1) stack stack (states.DotName base start) (states.Dotted base start x) refl a.1 refl (omega (arith, few)) in
    let end : x.span.end ≡ (span_at ts i (i + 1 + 1)).end = ap (λ (s : Span). s.end) (name_span ts x (i + 1) a.1) in
    subst (λ (y : ℕ). StepReads levels ts (postfixes.Property x) base stack state i y) (sym a.2) (record {
      state = states.Dotted base start x;
      further = omega arith;
      runs = one ∙ two;
      holds = subst (λ (y : ℕ). Holds stack (states.Dotted base start x) (with_postfix base (postfixes.Property x) y)) end (held_dotted stack base start x);
    })

-- a call that begins and ends where its span says
step_by_span : (ts : List Lexeme) (tree : Span → Postfix) (span : Span) (p : Piece)
    → ((levels n i j : ℕ) (stack : List Frame) (state : State) (base : Base) → Holds stack state base → open_levels stack + n ≤ levels → p n i ≡ Some j
    → StepReads levels ts (tree (span_at ts i j)) base stack state i j)
    → StepBy ts (spanned ts span p) (tree span)
step_by_span ts tree span p h levels n i j stack state base holds few e =
    let a = at_span ts span p n i j e in
    subst (λ (s : Span). StepReads levels ts (tree s) base stack state i j) (sym a.1) (h levels n i j stack state base holds few a.0)

pub dot_read : (ts : List Lexeme) (x : Name) (a : Args) (span : Span) → AreArgsRead ts a → StepBy ts (postfix_step ts (of.Dot x (given ts a) span)) (postfixes.Dot x a span)
unfolding move span_at
dot_read ts x a span ih =
    let head : Piece = sign ts (codes ".") ▸ name ts x in
    step_by_span ts (postfixes.Dot x a) span (head ▸ args_for x.text (given ts a)) (λ levels n i j stack state base holds few e.
    let b = parts head (args_for x.text (given ts a)) n i j e in
    let c = head_parts (is_sign (codes ".")) ts x n i b.0 b.1 in
    let start : ℕ = (span_at ts i (i + 1)).start in
    let one = step levels ts symbols.Dot i stack stack state (states.DotName base start) refl c.0 (holds symbols.Dot (span_at ts i (i + 1)) refl)
    (omega (arith, few)) in
    let two = step levels ts (symbols.Name x) (i + 1) stack stack (states.DotName base start) (states.Dotted base start x) refl c.1 refl (omega (arith, few)) in
    let r = ih levels n (i + 1 + 1) j stack x few (subst (λ (y : ℕ). args_for x.text (given ts a) n y ≡ Some j) c.2 b.2) in
    let three = r.plain (before.Dot base start) (states.Dotted base start x) (λ at. refl) in
    let whole : Base = with_postfix base (postfixes.Dot x a (span_at ts i j)) (span_at ts i j).end in
    record { state = states.After whole; further = omega (arith, r.further); runs = one ∙ two ∙ three; holds = held_after stack whole })

pub arrow_read : (ts : List Lexeme) (x : Name) (a : Args) (span : Span) → AreArgsRead ts a
    → StepBy ts (postfix_step ts (of.Arrow x (given ts a) span)) (postfixes.Arrow x a span)
unfolding move span_at
arrow_read ts x a span ih =
    let head : Piece = sign ts (codes "->") ▸ name ts x in
    step_by_span ts (postfixes.Arrow x a) span (head ▸ args_for x.text (given ts a)) (λ levels n i j stack state base holds few e.
    let b = parts head (args_for x.text (given ts a)) n i j e in
    let c = head_parts (is_sign (codes "->")) ts x n i b.0 b.1 in
    let start : ℕ = (span_at ts i (i + 1)).start in
    let one = step levels ts symbols.Arrow i stack stack state (states.ArrowName base start) refl c.0 (holds symbols.Arrow (span_at ts i (i + 1)) refl)
    (omega (arith, few)) in
    let two = step levels ts (symbols.Name x) (i + 1) stack stack (states.ArrowName base start) (states.ArrowParenthesis base start x) refl c.1 refl
    (omega (arith, few)) in
    let r = ih levels n (i + 1 + 1) j stack x few (subst (λ (y : ℕ). args_for x.text (given ts a) n y ≡ Some j) c.2 b.2) in
    let whole : Base = with_postfix base (postfixes.Arrow x a (span_at ts i j)) (span_at ts i j).end in
    record { state = states.After whole; further = omega (arith, r.further); runs = one ∙ two ∙ r.arrow base start; holds = held_after stack whole })

iterator_on : (levels : ℕ) (ts : List Lexeme) (x v : Name) (ty : Option TypeTree) (body : Expr) (stack : List Frame) (state : State) (base : Base) (n m i k₁ k₂ : ℕ)
    → IsRead ts body → Holds stack state base
    → open_levels stack + n ≤ levels → n ≡ m + 1 → stands (is_sign (codes "->")) ts i ≡ true → stands (is_name x) ts (i + 1) ≡ true
    → declared_variable ts v ty m (i + 1 + 1) ≡ Some k₁
    → (form ts body).piece m k₁ ≡ Some k₂ → stands (is_sign (codes ")")) ts k₂ ≡ true
    → StepReads levels ts (postfixes.Iterator x v ty body (span_at ts i (k₂ + 1))) base stack state i (k₂ + 1)
unfolding move reduced span_at
iterator_on levels ts x v ty body stack state base n m i k₁ k₂ ih holds few deeper w₁ w₂ variable subtree w₃ =
    let start : ℕ = (span_at ts i (i + 1)).start in
    let inside : List Frame = frames.Body (iterated_of base start x v) ty ∷ stack in
    let one = step levels ts symbols.Arrow i stack stack state (states.ArrowName base start) refl w₁ (holds symbols.Arrow (span_at ts i (i + 1)) refl)
    (omega (arith, few)) in
    let two = step levels ts (symbols.Name x) (i + 1) stack stack (states.ArrowName base start) (states.ArrowParenthesis base start x) refl w₂ refl
    (omega (arith, few)) in
    let three = variable_read levels ts stack base start x v ty m (i + 1 + 1) k₁ (omega (arith, few, deeper)) variable in
    let r = ih levels m k₁ k₂ inside tt (omega (arith, few, deeper)) subtree in
    let whole : Base = with_postfix base (postfixes.Iterator x v ty body (span_at ts i (k₂ + 1))) (span_at ts i (k₂ + 1)).end in
    let four = step levels ts symbols.CloseParenthesis k₂ r.on stack r.state (states.After whole) refl w₃
    (closing levels ts body (form ts body).binding inside k₁ k₂ r symbols.CloseParenthesis (span_at ts k₂ (k₂ + 1)) refl) (omega (arith, few)) in
    record { state = states.After whole; further = omega (arith, three.0, r.further); runs = one ∙ two ∙ three.1 ∙ r.runs ∙ four; holds = held_after stack whole }

pub iterator_read : (ts : List Lexeme) (x v : Name) (ty : Option TypeTree) (body : Expr) (span : Span) → IsRead ts body
    → StepBy ts (postfix_step ts (of.Iterator x v ty (form ts body) span)) (postfixes.Iterator x v ty body span)
iterator_read ts x v ty body span ih =
    let head : Piece = sign ts (codes "->") ▸ name ts x in
    let inner : Piece = declared_variable ts v ty ▸ (form ts body).piece in
    let whole : Piece = inner ▸ sign ts (codes ")") in
    step_by_span ts (postfixes.Iterator x v ty body) span (head ▸ nested whole) (λ levels n i j stack state base holds few e.
    let b = parts head (nested whole) n i j e in
    let c = head_parts (is_sign (codes "->")) ts x n i b.0 b.1 in
    let d = within whole n b.0 j b.2 in
    let m : ℕ = d.0 in
    let f = token_last inner (is_sign (codes ")")) ts m b.0 j d.2 in
    let g = parts (declared_variable ts v ty) (form ts body).piece m b.0 f.0 f.1 in
    subst (λ (y : ℕ). StepReads levels ts (postfixes.Iterator x v ty body (span_at ts i y)) base stack state i y) (sym f.3)
    (iterator_on levels ts x v ty body stack state base n m i g.0 f.0 ih holds few d.1 c.0 c.1 (subst (λ (y : ℕ). declared_variable ts v ty m y ≡ Some g.0) c.2 g.1) g.2
    f.2))

-- ---- calls one behind the other

abbrev base_from_to : List Lexeme → Expr → List Postfix → ℕ → ℕ → Base
base_from_to ts e done i j = record { of = e; steps = done; span = span_at ts i j }

abbrev pub postfixes_piece : List Lexeme → List Postfix → Piece
postfixes_piece ts ss = each (map (postfix_piece ts) ss)

record StepsRead (levels : ℕ) (ts : List Lexeme) (e : Expr) (all : List Postfix) (stack : List Frame) (before : State) (i j k : ℕ) : Type 0 where
  pub state : State
  pub further : j ≤ k
  pub runs : going levels ts stack before j ≡ going levels ts stack state k
  pub holds : Holds stack state (base_from_to ts e all i k)

steps_on : (levels : ℕ) (ts : List Lexeme) (e : Expr) (stack : List Frame) (n i k : ℕ) → open_levels stack + n ≤ levels → (ss : List Postfix) → AllOf (IsPostfixRead ts) ss
    → (done : List Postfix) (state : State) (j : ℕ)
    → Holds stack state (base_from_to ts e done i j) → postfixes_piece ts ss n j ≡ Some k → StepsRead levels ts e (done ++ ss) stack state i j k
unfolding each span_at
steps_on levels ts e stack n i k few [] all done state j holds p =
    let same : j ≡ k = cc in
    record {
      state = state;
      further = omega (arith, same);
      runs = ap (going levels ts stack state) same;
      holds = subst (λ (y : ℕ). Holds stack state (base_from_to ts e (done ++ []) i y)) same
          (subst (λ (ss : List Postfix). Holds stack state (base_from_to ts e ss i j)) (sym (append-nil done)) holds);
    }
steps_on levels ts e stack n i k few (s ∷ ss) all done state j holds p =
    let a = parts (postfix_piece ts s) (postfixes_piece ts ss) n j k p in
    let r = all.0 levels n j a.0 stack state (base_from_to ts e done i j) holds few a.1 in
    let rest = steps_on levels ts e stack n i k few ss all.1 (done ++ s ∷ []) r.state a.0 r.holds a.2 in
    record {
      state = rest.state;
      further = omega (arith, r.further, rest.further);
      runs = r.runs ∙ rest.runs;
      holds = subst (λ (ss' : List Postfix). Holds stack rest.state (base_from_to ts e ss' i k)) (append_assoc done (s ∷ []) ss) rest.holds;
    }

calls_on : (levels : ℕ) (ts : List Lexeme) (subtree : Expr) (ss : List Postfix) (stack : List Frame) (n i j : ℕ) → IsRead ts subtree → AllOf (IsPostfixRead ts) ss
    → 10 ≤ (form ts subtree).binding → 0 < length ss
    → Fits (form ts subtree).binding stack → open_levels stack + n ≤ levels → ((form ts subtree).piece ▸ postfixes_piece ts ss) n i ≡ Some j
    → Reads levels ts (exprs.Calls subtree ss (span_at ts i j)) 9 stack i j
calls_on levels ts subtree [] stack n i j ih all tight some fit few e = absurd (omega arith)
calls_on levels ts subtree (s ∷ ss) stack n i j ih all tight some fit few e =
    let a = parts (form ts subtree).piece (postfixes_piece ts (s ∷ ss)) n i j e in
    let r = ih levels n i a.0 stack fit few a.1 in
    let t = r.tight tight in
    let holds : Holds stack r.state (base_of subtree (span_at ts i a.0)) =
    subst (λ (b : Base). Holds stack r.state b) t.1 (subst (λ (st : List Frame). Holds st r.state r.base) t.0 r.holds) in
    let runs : going levels ts stack states.Operand i ≡ going levels ts stack r.state a.0 = r.runs ∙ ap (λ (st : List Frame). going levels ts st r.state a.0) t.0 in
    let rest = steps_on levels ts subtree stack n i j few (s ∷ ss) all [] r.state a.0 holds a.2 in
    record {
      on = stack;
      state = rest.state;
      base = base_from_to ts subtree (s ∷ ss) i j;
      further = omega (arith, r.further, rest.further);
      runs = runs ∙ rest.runs;
      holds = rest.holds;
      reduces = λ m h. refl;
      tight = λ h. absurd (omega arith);
    }

tighter : (b : ℕ) (stack : List Frame) → 10 ≤ b → Fits 9 stack → Fits b stack
tighter b [] h fit = tt
tighter b (frames.Row first rest operator ∷ stack) h fit = omega arith
tighter b (frames.Not start ∷ stack) h fit = omega arith
tighter b (frames.Negated start ∷ stack) h fit = omega arith
tighter b (frame ∷ stack) h fit = tt

pub calls_read : (ts : List Lexeme) (subtree : Expr) (ss : List Postfix) (span : Span) → IsRead ts subtree → AllOf (IsPostfixRead ts) ss
    → Reading ts (expr_step ts (of.Calls (form ts subtree) (map (postfix_piece ts) ss) span)) (exprs.Calls subtree ss span)
calls_read ts subtree ss span ih all =
    let binds : Bool = nat_le 10 (form ts subtree).binding in
    let some : Bool = nat_lt 0 (length (map (postfix_piece ts) ss)) in
    by_span ts 9 (exprs.Calls subtree ss) span (only (binds && some) ((form ts subtree).piece ▸ postfixes_piece ts ss)) (λ levels n i j stack fit few e.
    let a = held (binds && some) ((form ts subtree).piece ▸ postfixes_piece ts ss) n i j e in
    let b = and_parts binds some a.0 in
    let tight : 10 ≤ (form ts subtree).binding = grind (arith, nat_tests, b.0) in
    let more : 0 < length (map (postfix_piece ts) ss) = grind (arith, nat_tests, b.1) in
    calls_on levels ts subtree ss stack n i j ih all tight (omega (arith, more, length-map ss (postfix_piece ts))) (tighter (form ts subtree).binding stack tight fit) few a.1)
