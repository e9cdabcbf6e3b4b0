-- Runs token by token.
use Rattle.std.proofs.Common.{◌≡◌, ℕ, ◌+◌, ◌-◌, ◌≤◌, Bool, true, false, nat_lt, List, [], ◌∷◌, drop, slice_get, Option, Some, None, ap, ◌∙◌, refl, arith}
use Rattle.std.specs.Option.{option_map_or}
use Rattle.std.proofs.lemmas.Bool.Decides.{nat_tests}
use Rattle.std.specs.Prelude.{if◌then◌else◌}
use Rattle.std.proofs.lemmas.List.{drop_more}
use Rattle.std.proofs.lemmas.Option.{slice_get_within, get_or_from_slice_get}
use Rattle.ql_lex.specs.Lexed.{Lexeme}
use Rattle.ql_lex.specs.Lexemes.{stands, span_at}
use Rattle.ql_lex.specs.Symbols.{symbol_of}
use Rattle.ocl_parser.specs.Moves.{Move, move, to, open_levels, state_levels}
use Rattle.ocl_parser.specs.Runs.{Answer, Tree, Stuck, Deep, run, go_on, ended_by}
use Rattle.ql_lex.specs.Symbols.{nowhere}
use Rattle.ql_lex.specs.declared.symbol.Symbol.{Symbol}
use Rattle.ql_lex.specs.declared.symbol.Symbol.TheVariants as symbols
use Rattle.ocl_parser.specs.declared.frame.Frame.{Frame}
use Rattle.ocl_parser.specs.declared.state.State.{State}
use Rattle.ocl_parser.specs.declared.state.Action.{Action}
use Rattle.ocl_parser.specs.declared.state.Action.TheVariants as actions
use Rattle.ocl_parser.proofs.SymbolLaws.{test_of, is_told, symbol_is}

-- the answer from the token of this number on
unfoldable pub going : ℕ → List Lexeme → List Frame → State → ℕ → Answer
going levels ts stack state at = run levels (drop at ts) stack state at

-- a token that passes a test
pub there : (passes : Lexeme → Bool) (ts : List Lexeme) (i : ℕ) → stands passes ts i ≡ true → (l : Lexeme) × (slice_get ts i ≡ Some l) × (passes l ≡ true)
unfolding stands
there passes ts i e = by (slice_get ts i) refl e
  where
    by : (o : Option Lexeme) → slice_get ts i ≡ o → option_map_or passes o false ≡ true → (l : Lexeme) × (slice_get ts i ≡ Some l) × (passes l ≡ true)
    by None a b = cc
    by (Some l) a b = (l, a, b)

pub span_of : (ts : List Lexeme) (i : ℕ) (l : Lexeme) → slice_get ts i ≡ Some l → span_at ts i (i + 1) ≡ l.token.span
unfolding span_at
span_of ts i l e =
    let one : i + 1 - 1 ≡ i = omega arith in
    rw (one, e) refl

left : (ts : List Lexeme) (i : ℕ) (l : Lexeme) → slice_get ts i ≡ Some l → drop i ts ≡ l ∷ drop (i + 1) ts
left ts i l e = drop_more ts i l (slice_get_within ts i l e) ∙ ap (λ (x : Lexeme). x ∷ drop (i + 1) ts) (get_or_from_slice_get ts i l l e)

-- what comes of a move
abbrev pub coming : ℕ → List Lexeme → ℕ → Move → Answer
coming levels ls at m = elim m.action [
  | actions.Read next ↦ go_on levels m.stack next at (run levels ls m.stack next (at + 1))
  | actions.Whole tree ↦ Tree tree at
  | actions.Refused ↦ Stuck at
]

pub moved : (levels : ℕ) (l : Lexeme) (ls : List Lexeme) (stack : List Frame) (state : State) (at : ℕ)
    → run levels (l ∷ ls) stack state at ≡ coming levels ls at (move stack state (symbol_of l) l.token.span)
unfolding run
moved levels l ls stack state at = refl

reads : (levels : ℕ) (l : Lexeme) (ls : List Lexeme) (stack next : List Frame) (state to_state : State) (at : ℕ)
    → move stack state (symbol_of l) l.token.span ≡ to next to_state
    → open_levels next + state_levels to_state ≤ levels → run levels (l ∷ ls) stack state at ≡ run levels ls next to_state (at + 1)
reads levels l ls stack next state to_state at m few =
    let within : nat_lt levels (open_levels next + state_levels to_state) ≡ false = grind (arith, nat_tests) in
    moved levels l ls stack state at ∙ ap (coming levels ls at) m ∙ rw within refl

pub step_at : (levels : ℕ) (ts : List Lexeme) (l : Lexeme) (i : ℕ) (stack next : List Frame) (state to_state : State) → slice_get ts i ≡ Some l
    → move stack state (symbol_of l) l.token.span ≡ to next to_state → open_levels next + state_levels to_state ≤ levels
    → going levels ts stack state i ≡ going levels ts next to_state (i + 1)
unfolding going
step_at levels ts l i stack next state to_state here m few = rw (left ts i l here) (reads levels l (drop (i + 1) ts) stack next state to_state i m few)

-- one token is read
pub step : (levels : ℕ) (ts : List Lexeme) (s : Symbol) (i : ℕ) (stack next : List Frame) (state to_state : State) → is_told s ≡ true → stands (test_of s) ts i ≡ true
    → move stack state s (span_at ts i (i + 1)) ≡ to next to_state → open_levels next + state_levels to_state ≤ levels
    → going levels ts stack state i ≡ going levels ts next to_state (i + 1)
step levels ts s i stack next state to_state told here m few =
    let t = there (test_of s) ts i here in
    let l : Lexeme = t.0 in
    let is : symbol_of l ≡ s = symbol_is s l told t.2 in
    step_at levels ts l i stack next state to_state t.1 (rw (is, ← span_of ts i l t.1) m) few

-- a token is refused
pub stuck_at : (levels : ℕ) (ts : List Lexeme) (l : Lexeme) (i : ℕ) (stack : List Frame) (state : State) → slice_get ts i ≡ Some l
    → (move stack state (symbol_of l) l.token.span).action ≡ actions.Refused → going levels ts stack state i ≡ Stuck i
unfolding going
stuck_at levels ts l i stack state here m = rw (left ts i l here) (moved levels l (drop (i + 1) ts) stack state i ∙ rw m refl)

-- the number of a token that an answer tells
abbrev pub told_at : Answer → ℕ
told_at (Tree tree end) = end
told_at (Stuck at) = at
told_at (Deep at) = at

-- it is none before the first token that is read
pub told_on : (levels : ℕ) (ls : List Lexeme) (stack : List Frame) (state : State) (at : ℕ) → at ≤ told_at (run levels ls stack state at)
unfolding run
told_on levels [] stack state at = by (move stack state symbols.Other nowhere).action
  where
    by : (o : Action) → at ≤ told_at (ended_by o at)
    by (actions.Read next) = omega arith
    by (actions.Whole tree) = omega arith
    by actions.Refused = omega arith
told_on levels (l ∷ ls) stack state at = by (move stack state (symbol_of l) l.token.span) (λ st p. told_on levels ls st p (at + 1))
  where
    so : (b : Bool) (a : Answer) → at + 1 ≤ told_at a → at ≤ told_at (if b then Deep at else a)
    so true a h = omega arith
    so false a h = omega arith

    of_outcome : (st : List Frame) (o : Action) → ((st : List Frame) (p : State) → at + 1 ≤ told_at (run levels ls st p (at + 1)))
        → at ≤ told_at (coming levels ls at (record { stack = st; action = o }))
    of_outcome st (actions.Read next) h = so (nat_lt levels (open_levels st + state_levels next)) (run levels ls st next (at + 1)) (h st next)
    of_outcome st (actions.Whole tree) h = omega arith
    of_outcome st actions.Refused h = omega arith

    by : (m : Move) → ((st : List Frame) (p : State) → at + 1 ≤ told_at (run levels ls st p (at + 1))) → at ≤ told_at (coming levels ls at m)
    by m h = of_outcome m.stack m.action h

pub going_on : (levels : ℕ) (ts : List Lexeme) (stack : List Frame) (state : State) (at : ℕ) → at ≤ told_at (going levels ts stack state at)
unfolding going
going_on levels ts stack state at = told_on levels (drop at ts) stack state at
