-- What is read as an expression is spelled: each symbol keeps what was read, and so do all.
use Rattle.std.proofs.Common.{◌≡◌, ℕ, ◌+◌, ◌<◌, ◌≤◌, Bool, true, false, nat_lt, if◌then◌else◌, List, [], ◌∷◌, length, drop, slice_get, get_or, Option, Some, None, ap, sym, ◌∙◌, refl, subst, arith, length-drop}
use Rattle.std.specs.Option.{option_map_or}
use Rattle.std.proofs.lemmas.Bool.Decides.{nat_tests}
use Rattle.std.proofs.lemmas.List.{drop_more}
use Rattle.std.proofs.lemmas.Option.{slice_get_past, slice_get-get_or}
use Rattle.mof_metamodel.specs.declared.span.Span.{Span}
use Rattle.ql_lex.specs.Lexed.{Lexeme}
use Rattle.qv_syntax.specs.declared.expr.Expr.{Expr}
use Rattle.ocl_parser.specs.Grammar.{spelled}
use Rattle.ql_lex.specs.Symbols.{symbol_of}
use Rattle.ocl_parser.specs.Moves.{Move, move, path_of, extended, open_levels, state_levels}
use Rattle.ocl_parser.specs.Runs.{Answer, Tree, Stuck, Deep, ended_by, go_on, run, answer}
use Rattle.ql_lex.specs.Symbols.{nowhere}
use Rattle.ql_lex.specs.declared.symbol.Symbol.{Symbol}
use Rattle.ql_lex.specs.declared.symbol.Symbol.TheVariants as symbols
use Rattle.ocl_parser.specs.declared.frame.Frame.{Frame}
use Rattle.ocl_parser.specs.declared.state.State.{State}
use Rattle.ocl_parser.specs.declared.state.State.TheVariants as states
use Rattle.ocl_parser.specs.declared.state.Action.{Action}
use Rattle.ocl_parser.specs.declared.state.Action.TheVariants as actions
use Rattle.ql_lex.proofs.TokenLaws.{stands_some}
use Rattle.ocl_parser.proofs.SymbolLaws.{test_of, tested}
use Rattle.ocl_parser.proofs.SoundStacks.{here, IsNamed, StateAt}
use Rattle.ocl_parser.proofs.SoundParts.{path_one, path_longer}
use Rattle.ocl_parser.proofs.SoundMoves.{OutcomeFits, Fits, IsAt, after_fits}
use Rattle.ocl_parser.proofs.SoundOperands.{operand_fits, path_fits, dotted_fits}
use Rattle.ocl_parser.proofs.SoundTypes.{type_begin_fits, type_parenthesis_fits, brace_fits, type_end_fits, type_path_fits, name_fits, colon_fits}
use Rattle.ocl_parser.proofs.SoundCalls.{arrow_parenthesis_fits, class_path_fits, arrow_first_fits, arrow_second_fits}

-- ---- one symbol

pub move_fits : (ts : List Lexeme) (from levels : ℕ) (stack : List Frame) (state : State) (s : Symbol) (b : ℕ) → StateAt ts from levels stack state b → IsAt ts b s
    → Fits ts from levels b (move stack state s (here ts b))
unfolding move
move_fits ts from levels stack states.Operand s b h e = operand_fits ts from levels stack s b h.0 h.1 e
move_fits ts from levels stack (states.After base) s b h e = after_fits ts from levels stack base s h.a b h.n h.below h.read e
move_fits ts from levels stack (states.Path path) s b h e = path_fits ts from levels stack path s h.a b h.n h.below h.read e
move_fits ts from levels stack (states.PathName path) s b h e =
    name_fits ts from levels stack (λ x. states.Path (extended path x)) s b
    (λ x named few. record { a = h.a; n = h.n; below = h.below; read = path_longer ts 3 path x h.a b h.read named }) e
move_fits ts from levels stack (states.LetName start) s b h e =
    name_fits ts from levels stack (λ x. states.LetColon start x) s b
    (λ x named few. record { a = h.a; n = h.n; below = h.below; read = (h.read.0, subst (IsNamed ts x) h.read.1 named, ap (λ (y : ℕ). y + 1) h.read.1) }) e
move_fits ts from levels stack (states.LetColon start name) s b h e = colon_fits ts from levels stack start name s h.a b h.n h.below h.read.0 h.read.1 h.read.2 e
move_fits ts from levels stack states.Type s b h e = type_begin_fits ts from levels stack s b h.0 h.1 e
move_fits ts from levels stack (states.TypeParenthesis start kind) s b h e = type_parenthesis_fits ts from levels stack start kind s h.a b h.n h.below h.read e
move_fits ts from levels stack (states.TypePath path) s b h e = type_path_fits ts from levels stack path s h.a b h.n h.below h.read e
move_fits ts from levels stack (states.TypeName path) s b h e =
    name_fits ts from levels stack (λ x. states.TypePath (extended path x)) s b
    (λ x named few. record { a = h.a; n = h.n; below = h.below; read = path_longer ts 2 path x h.a b h.read named }) e
move_fits ts from levels stack (states.TypeEnd ty) s b h e = type_end_fits ts from levels stack ty s h.a b h.n h.below h.read e
move_fits ts from levels stack (states.Brace start kind) s b h e = brace_fits ts from levels stack start kind s h.a b h.n h.below h.read e
move_fits ts from levels stack (states.DotName base start) s b h e =
    name_fits ts from levels stack (λ x. states.Dotted base start x) s b
    (λ x named few. let r = h.read in record {
      a = h.a;
      n = h.n;
      below = h.below;
      read = record { at = r.at; subtree = r.subtree; begin = r.begin; sign = r.sign; named = subst (IsNamed ts x) r.end named; end = ap (λ (y : ℕ). y + 1) r.end };
    }) e
move_fits ts from levels stack (states.Dotted base start name) s b h e = dotted_fits ts from levels stack base start name s h.a b h.n h.below h.read e
move_fits ts from levels stack (states.ArrowName base start) s b h e =
    name_fits ts from levels stack (λ x. states.ArrowParenthesis base start x) s b
    (λ x named few. let r = h.read in record {
      a = h.a;
      n = h.n;
      below = h.below;
      read = record { at = r.at; subtree = r.subtree; begin = r.begin; sign = r.sign; named = subst (IsNamed ts x) r.end named; end = ap (λ (y : ℕ). y + 1) r.end };
    }) e
move_fits ts from levels stack (states.ArrowParenthesis base start name) s b h e =
    arrow_parenthesis_fits ts from levels stack base start name s h.a b h.n h.below h.read e
move_fits ts from levels stack (states.ArrowFirst base start name) s b h e = arrow_first_fits ts from levels stack base start name s h.a b h.n h.below h.read e
move_fits ts from levels stack (states.ArrowSecond it) s b h e = arrow_second_fits ts from levels stack it s h.a b h.n h.below h.read e
move_fits ts from levels stack (states.ClassName called) s b h e =
    name_fits ts from levels stack (λ x. states.ClassPath called (path_of x)) s b
    (λ x named few. record { a = h.a; n = h.n; below = h.below; read = record { from = b; call = h.read; path = path_one ts 2 x b (omega arith) named } }) e
move_fits ts from levels stack (states.ClassPath called path) s b h e = class_path_fits ts from levels stack called path s h.a b h.n h.below h.read e
move_fits ts from levels stack (states.ClassNext called path) s b h e =
    name_fits ts from levels stack (λ x. states.ClassPath called (extended path x)) s b
    (λ x named few. let r = h.read in record {
      a = h.a;
      n = h.n;
      below = h.below;
      read = record { from = r.from; call = r.call; path = path_longer ts 2 path x r.from b r.path named };
    }) e

-- ---- all symbols

is_at : (ts : List Lexeme) (at : ℕ) (l : Lexeme) (s : Symbol) → slice_get ts at ≡ Some l → test_of s l ≡ true → IsAt ts at s
is_at ts at l symbols.Other e h = tt
is_at ts at l s e h = stands_some (test_of s) ts at l e ∙ h

here_is : (ts : List Lexeme) (at : ℕ) (l : Lexeme) → slice_get ts at ≡ Some l → here ts at ≡ l.token.span
here_is ts at l e =
    ap (λ (o : Option Lexeme). record { start = option_map_or (λ (x : Lexeme). x.token.span.start) o 0; end = option_map_or (λ (x : Lexeme). x.token.span.end) o 0 }) e

nowhere_is : (ts : List Lexeme) (at : ℕ) → slice_get ts at ≡ None → here ts at ≡ nowhere
nowhere_is ts at e =
    ap (λ (o : Option Lexeme). record { start = option_map_or (λ (x : Lexeme). x.token.span.start) o 0; end = option_map_or (λ (x : Lexeme). x.token.span.end) o 0 }) e

-- the answer is spelled, and ends where tokens were
pub record Sound (ts : List Lexeme) (from levels at : ℕ) (tree : Expr) (end : ℕ) : Type 0 where
  pub spelled : spelled ts levels tree from ≡ Some end
  pub later : at ≤ end
  pub within : end ≤ length ts

same_answer : (ts : List Lexeme) (from levels at : ℕ) (one tree : Expr) (end : ℕ) → at ≤ length ts → spelled ts levels one from ≡ Some at → Tree one at ≡ Tree tree end
    → Sound ts from levels at tree end
same_answer ts from levels at one tree end within h e =
    let same : one ≡ tree = cc in
    let there : at ≡ end = cc in
    record { spelled = ap (λ (x : Expr). spelled ts levels x from) (sym same) ∙ h ∙ ap Some there; later = omega (arith, there); within = omega (arith, there, within) }

no_tree : {X : Type 0} (at end : ℕ) (tree : Expr) → Stuck at ≡ Tree tree end → X
no_tree at end tree e = absurd cc

no_deep : {X : Type 0} (at end : ℕ) (tree : Expr) → Deep at ≡ Tree tree end → X
no_deep at end tree e = absurd cc

ended_sound : (ts : List Lexeme) (from levels at : ℕ) (stack : List Frame) (o : Action) (tree : Expr) (end : ℕ) → at ≤ length ts
    → OutcomeFits ts from levels at stack o → ended_by o at ≡ Tree tree end
    → Sound ts from levels at tree end
ended_sound ts from levels at stack (actions.Whole one) tree end within h e = same_answer ts from levels at one tree end within h e
ended_sound ts from levels at stack (actions.Read state) tree end within h e = no_tree at end tree e
ended_sound ts from levels at stack actions.Refused tree end within h e = no_tree at end tree e

-- the answer of the tokens behind one that was read
abbrev continued : ℕ → List Lexeme → List Frame → ℕ → Action → Answer
continued levels ls stack at (actions.Read next) = go_on levels stack next at (run levels ls stack next (at + 1))
continued levels ls stack at (actions.Whole tree) = Tree tree at
continued levels ls stack at actions.Refused = Stuck at

room_by : (levels opened at end : ℕ) (b : Bool) (rest : Answer) (tree : Expr) → nat_lt levels opened ≡ b → (if b then Deep at else rest) ≡ Tree tree end
    → (opened ≤ levels) × (rest ≡ Tree tree end)
room_by levels opened at end true rest tree test e = no_deep at end tree e
room_by levels opened at end false rest tree test e = (grind (arith, nat_tests), e)

continued_sound : (ts : List Lexeme) (from levels at : ℕ) (ls : List Lexeme) (stack : List Frame) (o : Action) (tree : Expr) (end : ℕ) → at ≤ length ts
    → OutcomeFits ts from levels at stack o
    → ((next : State) → StateAt ts from levels stack next (at + 1) → run levels ls stack next (at + 1) ≡ Tree tree end → Sound ts from levels (at + 1) tree end)
    → continued levels ls stack at o ≡ Tree tree end → Sound ts from levels at tree end
continued_sound ts from levels at ls stack (actions.Whole one) tree end within h rest e = same_answer ts from levels at one tree end within h e
continued_sound ts from levels at ls stack (actions.Read next) tree end within h rest e =
    let r = room_by levels (open_levels stack + state_levels next) at end (nat_lt levels (open_levels stack + state_levels next))
    (run levels ls stack next (at + 1)) tree refl e in
    let s = rest next (h r.0) r.1 in
    record { spelled = s.spelled; later = omega (arith, s.later); within = s.within }
continued_sound ts from levels at ls stack actions.Refused tree end within h rest e = no_tree at end tree e

-- the first of the tokens that are left, and those behind it
head_at : (ts : List Lexeme) (at : ℕ) (l : Lexeme) (ls : List Lexeme) → at + length (l ∷ ls) ≡ length ts → drop at ts ≡ l ∷ ls
    → (slice_get ts at ≡ Some l) × (drop (at + 1) ts ≡ ls)
head_at ts at l ls count e =
    let inside : at < length ts = omega (arith, count) in
    let split : l ∷ ls ≡ get_or ts at l ∷ drop (at + 1) ts = sym e ∙ drop_more ts at l inside in
    let first : get_or ts at l ≡ l = cc in
    let more : drop (at + 1) ts ≡ ls = cc in
    (slice_get-get_or ts at l inside ∙ ap Some first, more)

run_sound : (ts : List Lexeme) (from levels : ℕ) (ls : List Lexeme) (stack : List Frame) (state : State) (at : ℕ) (tree : Expr) (end : ℕ) → drop at ts ≡ ls
    → at + length ls ≡ length ts
    → StateAt ts from levels stack state at → run levels ls stack state at ≡ Tree tree end → Sound ts from levels at tree end
unfolding run
run_sound ts from levels [] stack state at tree end left count h e =
    let none : slice_get ts at ≡ None = slice_get_past ts at (omega (arith, count)) in
    let mv : Move = move stack state symbols.Other nowhere in
    let fits : Fits ts from levels at mv = subst (λ (s : Span). Fits ts from levels at (move stack state symbols.Other s)) (nowhere_is ts at none)
    (move_fits ts from levels stack state symbols.Other at h tt) in
    ended_sound ts from levels at mv.stack mv.action tree end (omega (arith, count)) fits e
run_sound ts from levels (l ∷ ls) stack state at tree end left count h e =
    let first = head_at ts at l ls count left in
    let mv : Move = move stack state (symbol_of l) l.token.span in
    let fits : Fits ts from levels at mv = subst (λ (s : Span). Fits ts from levels at (move stack state (symbol_of l) s)) (here_is ts at l first.0)
    (move_fits ts from levels stack state (symbol_of l) at h (is_at ts at l (symbol_of l) first.0 (tested l))) in
    continued_sound ts from levels at ls mv.stack mv.action tree end (omega (arith, count)) fits
    (λ next there rest. run_sound ts from levels ls mv.stack next (at + 1) tree end first.1 (omega (arith, count)) there rest) e

pub answer_sound : (ts : List Lexeme) (levels from : ℕ) (tree : Expr) (end : ℕ) → from ≤ length ts → answer ts levels from ≡ Tree tree end
    → Sound ts from levels from tree end
unfolding answer
answer_sound ts levels from tree end within e =
    run_sound ts from levels (drop from ts) [] states.Operand from tree end refl (omega (arith, length-drop from ts, within)) (levels, (refl, refl)) e
