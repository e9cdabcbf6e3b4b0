-- Laws about one token further in a run.
use Rattle.std.proofs.Common.{◌≡◌, ℕ, ◌+◌, ◌<◌, ◌≤◌, List, [], ◌∷◌, drop, length, slice_get, Option, Some, Result, refl, sym, ◌∙◌, ap, subst, inl, inr, arith}
use Rattle.std.proofs.lemmas.List.{drop_more}
use Rattle.std.proofs.lemmas.Option.{slice_get_within, get_or_from_slice_get, slice_get_cases, slice_get_past}
use Rattle.ql_lex.specs.Lexed.{Lexeme, LexedText}
use Rattle.qv_syntax.specs.declared.expr.Expr.{Expr}
use Rattle.ql_lex.specs.Symbols.{symbol_of}
use Rattle.ocl_parser.specs.Moves.{Move, move}
use Rattle.ocl_parser.specs.Runs.{Answer, ended_by, run}
use Rattle.ql_lex.specs.Symbols.{nowhere}
use Rattle.ocl_parser.specs.Answers.{Passed, made, step_answer}
use Rattle.ql_lex.specs.Symbols.{terminal_of}
use Rattle.ql_lex.specs.declared.symbol.Symbol.TheVariants as symbols
use Rattle.ocl_parser.specs.Readings.{Gives, read_by}
use Rattle.ocl_parser.specs.declared.halt.Halt.{Halt}
use Rattle.ocl_parser.specs.declared.frame.Frame.{Frame}
use Rattle.ocl_parser.specs.declared.state.State.{State}
use Rattle.ocl_parser.specs.declared.state.Action.{Action}

-- what the symbol of the token of this number made
pub record IsNext (ts : List Lexeme) (at : ℕ) (stack : List Frame) (state : State) (more : List Frame) (action : Action) : Type 0 where
  pub made : made more action ≡ move stack state (terminal_of (slice_get ts at)).symbol (terminal_of (slice_get ts at)).span

drop_at : (ts : List Lexeme) (at : ℕ) (l : Lexeme) → slice_get ts at ≡ Some l → drop at ts ≡ l ∷ drop (at + 1) ts
drop_at ts at l e = drop_more ts at l (slice_get_within ts at l e) ∙ ap (λ (x : Lexeme). x ∷ drop (at + 1) ts) (get_or_from_slice_get ts at l l e)

of_token : (levels : ℕ) (ts : List Lexeme) (at : ℕ) (l : Lexeme) (stack more : List Frame) (state : State) (action : Action) → slice_get ts at ≡ Some l → IsNext ts at stack state more action
    → made more action ≡ move stack state (symbol_of l) l.token.span
of_token levels ts at l stack more state action e n = n.made ∙ ap (λ (o : Option Lexeme). move stack state (terminal_of o).symbol (terminal_of o).span) e

run_cons : (levels : ℕ) (l : Lexeme) (ls : List Lexeme) (stack : List Frame) (state : State) (at : ℕ)
    → run levels (l ∷ ls) stack state at ≡ step_answer levels ls at (move stack state (symbol_of l) l.token.span)
unfolding run
run_cons levels l ls stack state at = refl

at_token : (levels : ℕ) (ts : List Lexeme) (at : ℕ) (l : Lexeme) (stack more : List Frame) (state : State) (action : Action) → slice_get ts at ≡ Some l → IsNext ts at stack state more action
    → step_answer levels (drop (at + 1) ts) at (made more action) ≡ run levels (drop at ts) stack state at
at_token levels ts at l stack more state action e n =
    sym (ap (λ (ls : List Lexeme). run levels ls stack state at) (drop_at ts at l e)
    ∙ run_cons levels l (drop (at + 1) ts) stack state at
    ∙ ap (step_answer levels (drop (at + 1) ts) at) (sym (of_token levels ts at l stack more state action e n)))

-- the answer from the token of this number on
pub one_token : (levels : ℕ) (ts : List Lexeme) (at : ℕ) (stack more : List Frame) (state : State) (action : Action) → at < length ts → IsNext ts at stack state more action
    → step_answer levels (drop (at + 1) ts) at (made more action) ≡ run levels (drop at ts) stack state at
one_token levels ts at stack more state action h n = elim (slice_get_cases ts at).1 [
  | inl w ↦ at_token levels ts at w.0 stack more state action w.2 n
  | inr none ↦ absurd (omega (arith, h, none.0))
]

run_nil : (levels : ℕ) (stack : List Frame) (state : State) (at : ℕ) → run levels [] stack state at ≡ ended_by (move stack state symbols.Other nowhere).action at
unfolding run
run_nil levels stack state at = refl

-- and behind the last one
pub no_token : (levels : ℕ) (ts : List Lexeme) (at : ℕ) (stack more : List Frame) (state : State) (action : Action) → length ts ≤ at → IsNext ts at stack state more action
    → ended_by action at ≡ run levels [] stack state at
no_token levels ts at stack more state action h n =
    let m : made more action ≡ move stack state symbols.Other nowhere = n.made ∙ ap (λ (o : Option Lexeme). move stack state (terminal_of o).symbol (terminal_of o).span) (slice_get_past ts at h) in
    sym (run_nil levels stack state at ∙ ap (λ (x : Move). ended_by x.action at) (sym m))

pub passed_so : (text : LexedText) (levels at : ℕ) (stack : List Frame) (state : State) (a b : Answer) (result : Option (Result (Expr × ℕ) Halt)) → a ≡ b → Passed text levels at stack state a result → Passed text levels at stack state b result
passed_so text levels at stack state a b result e h = let P : Answer → Type 0 = λ x. Passed text levels at stack state x result in subst P e h

pub reads_so : (a b : Answer) (result : Result (Expr × ℕ) Halt) → a ≡ b → Gives result (read_by a) → Gives result (read_by b)
reads_so a b result e h = let P : Answer → Type 0 = λ x. Gives result (read_by x) in subst P e h
