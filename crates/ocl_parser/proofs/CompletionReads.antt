-- Tokens that are read one by one, and the answer for them and others behind them.
use Rattle.std.proofs.Common.{◌≡◌, ℕ, ◌+◌, ◌≤◌, Bool, true, false, nat_lt, if◌then◌else◌, List, [], ◌∷◌, ◌++◌, length, take, drop, Option, None, Some, ap, sym, ◌∙◌, refl, subst, arith, length-append, length-drop}
use Rattle.std.proofs.lemmas.Bool.Decides.{nat_tests}
use Rattle.std.proofs.lemmas.List.{drop-append-le, length-take-le}
use Rattle.ql_lex.specs.Lexed.{Lexeme}
use Rattle.qv_syntax.specs.declared.expr.Expr.{Expr}
use Rattle.ql_lex.specs.Symbols.{symbol_of}
use Rattle.ocl_parser.specs.Moves.{Move, move, open_levels, state_levels}
use Rattle.ocl_parser.specs.Runs.{Tree, run, answer}
use Rattle.ocl_parser.specs.Completion.{Reading, Reaches, Ends, reads, is_open, completion, opening_levels}
use Rattle.ocl_parser.specs.declared.frame.Frame.{Frame}
use Rattle.ocl_parser.specs.declared.state.State.{State}
use Rattle.ocl_parser.specs.declared.state.State.TheVariants as states
use Rattle.ocl_parser.specs.declared.state.Action.{Action}
use Rattle.ocl_parser.specs.declared.state.Action.TheVariants as actions
use Rattle.ocl_parser.proofs.CompletionSteps.{by_move, run-step}
use Rattle.ocl_parser.proofs.CompletionKept.{is_kept, move_kept}
use Rattle.ocl_parser.proofs.CompletionStates.{state_ends}

-- what tokens make of what was read, by what the first of them does
abbrev pub reads_by : ℕ → List Lexeme → Move → Option Reading
reads_by levels ls m = elim m.action [
  | actions.Read next ↦ if nat_lt levels (open_levels m.stack + state_levels next) then None else reads levels ls m.stack next
  | actions.Whole tree ↦ None
  | actions.Refused ↦ None
]

pub reads-step : (levels : ℕ) (l : Lexeme) (ls : List Lexeme) (stack : List Frame) (state : State) → reads levels (l ∷ ls) stack state ≡ reads_by levels ls (move stack state (symbol_of l) l.token.span)
unfolding reads
reads-step levels l ls stack state = refl

-- the first of tokens that are read
pub record FirstRead (levels : ℕ) (ls : List Lexeme) (m : Move) (r : Reading) : Type 0 where
  pub next : State
  pub is : m.action ≡ actions.Read next
  pub fits : open_levels m.stack + state_levels next ≤ levels
  pub rest : reads levels ls m.stack next ≡ Some r

pub first_read : (levels : ℕ) (ls : List Lexeme) (m : Move) (r : Reading) → reads_by levels ls m ≡ Some r → FirstRead levels ls m r
first_read levels ls m r h = by m.action h refl
  where
    by : (o : Action) → reads_by levels ls (record { stack = m.stack; action = o }) ≡ Some r → m.action ≡ o → FirstRead levels ls m r
    by (actions.Read next) h e = deep (nat_lt levels (open_levels m.stack + state_levels next)) refl h
      where
        deep : (b : Bool) → nat_lt levels (open_levels m.stack + state_levels next) ≡ b → (if b then None else reads levels ls m.stack next) ≡ Some r → FirstRead levels ls m r
        deep true small k = cc
        deep false small k = record { next = next; is = e; fits = grind (arith, nat_tests); rest = k }
    by (actions.Whole tree) h e = cc
    by actions.Refused h e = cc

-- what each token that is read keeps, all keep
pub reads_keep : (Holds : List Frame → State → Type 0) (levels : ℕ)
    → ((stack : List Frame) (state : State) (l : Lexeme) (next : State) → Holds stack state → (move stack state (symbol_of l) l.token.span).action ≡ actions.Read next
    → open_levels (move stack state (symbol_of l) l.token.span).stack + state_levels next ≤ levels → Holds (move stack state (symbol_of l) l.token.span).stack next)
    → (ls : List Lexeme) (stack : List Frame) (state : State) (r : Reading) → reads levels ls stack state ≡ Some r → Holds stack state → Holds r.stack r.state
unfolding reads
reads_keep Holds levels kept [] stack state r e h =
    let is : record { stack = stack; state = state } ≡ r = cc in
    subst (λ (x : Reading). Holds x.stack x.state) is h
reads_keep Holds levels kept (l ∷ ls) stack state r e h =
    let f : FirstRead levels ls (move stack state (symbol_of l) l.token.span) r = first_read levels ls (move stack state (symbol_of l) l.token.span) r (sym (reads-step levels l ls stack state) ∙ e) in
    reads_keep Holds levels kept ls (move stack state (symbol_of l) l.token.span).stack f.next r f.rest (kept stack state l f.next h f.is f.fits)

-- the constructs stand in order
pub reads_open : (levels : ℕ) (ls : List Lexeme) (stack : List Frame) (state : State) (r : Reading) → reads levels ls stack state ≡ Some r → is_open stack state ≡ true → is_open r.stack r.state ≡ true
reads_open levels = reads_keep (λ stack state. is_open stack state ≡ true) levels
    (λ stack state l next h e fits. by (move stack state (symbol_of l) l.token.span) next (move_kept stack state (symbol_of l) l.token.span h) e)
  where
    by : (m : Move) (next : State) → is_kept m ≡ true → m.action ≡ actions.Read next → is_open m.stack next ≡ true
    by m next h e = rw e at h

-- and within the levels
pub reads_fit : (levels : ℕ) (ls : List Lexeme) (stack : List Frame) (state : State) (r : Reading) → reads levels ls stack state ≡ Some r → open_levels stack + state_levels state ≤ levels
    → open_levels r.stack + state_levels r.state ≤ levels
reads_fit levels = reads_keep (λ stack state. open_levels stack + state_levels state ≤ levels) levels (λ stack state l next h e fits. fits)

-- the answer behind tokens that are read, within as many levels or more
pub reads_run : (levels wider : ℕ) → levels ≤ wider → (ls more : List Lexeme) (stack : List Frame) (state : State) (r : Reading) (at : ℕ) → reads levels ls stack state ≡ Some r
    → run wider (ls ++ more) stack state at ≡ run wider more r.stack r.state (at + length ls)
unfolding reads
reads_run levels wider w [] more stack state r at e =
    let is : record { stack = stack; state = state } ≡ r = cc in
    let here : at ≡ at + 0 = omega arith in
    ap (run wider more stack state) here ∙ ap (λ (x : Reading). run wider more x.stack x.state (at + 0)) is
reads_run levels wider w (l ∷ ls) more stack state r at e =
    let m : Move = move stack state (symbol_of l) l.token.span in
    let f : FirstRead levels ls m r = first_read levels ls m r (sym (reads-step levels l ls stack state) ∙ e) in
    let small : nat_lt wider (open_levels m.stack + state_levels f.next) ≡ false = grind (arith, nat_tests, f.fits) in
    let first : by_move wider (ls ++ more) at m ≡ run wider (ls ++ more) m.stack f.next (at + 1) = by m f.next f.is small in
    let here : at + 1 + length ls ≡ at + length (l ∷ ls) = omega arith in
    run-step wider at stack state l (ls ++ more) ∙ first ∙ reads_run levels wider w ls more m.stack f.next r (at + 1) f.rest ∙ ap (run wider more r.stack r.state) here
  where
    by : (m : Move) (next : State) → m.action ≡ actions.Read next → nat_lt wider (open_levels m.stack + state_levels next) ≡ false → by_move wider (ls ++ more) at m ≡ run wider (ls ++ more) m.stack next (at + 1)
    by m next e small = rw (e, small) refl

-- the answer for the tokens before one that is reached, and others behind them
pub answer_run : (ts : List Lexeme) (levels from k : ℕ) (r : Reading) → from ≤ k → k ≤ length ts → Reaches ts levels from k r → (wider : ℕ) → levels ≤ wider → (more : List Lexeme)
    → answer (take k ts ++ more) wider from ≡ run wider more r.stack r.state k
unfolding answer
answer_run ts levels from k r order within reached wider w more =
    let n : length (take k ts) ≡ k = length-take-le k ts within in
    let apart : drop from (take k ts ++ more) ≡ drop from (take k ts) ++ more = drop-append-le from (take k ts) more (omega (arith, n)) in
    let here : from + length (drop from (take k ts)) ≡ k = omega (arith, n, length-drop from (take k ts)) in
    ap (λ (ls : List Lexeme). run wider ls [] states.Operand from) apart ∙ reads_run levels wider w (drop from (take k ts)) more [] states.Operand r from reached
    ∙ ap (run wider more r.stack r.state) here

-- what is read can be ended
pub reached_ends : (ts : List Lexeme) (levels from k : ℕ) (r : Reading) → from ≤ k → k ≤ length ts → Reaches ts levels from k r → (wider : ℕ) → levels + opening_levels r.state ≤ wider
    → (tree : Expr) × (answer (take k ts ++ completion r.stack r.state) wider from ≡ Tree tree (length (take k ts ++ completion r.stack r.state)))
reached_ends ts levels from k r order within reached wider w =
    let more : List Lexeme = completion r.stack r.state in
    let opened : is_open r.stack r.state ≡ true = reads_open levels (drop from (take k ts)) [] states.Operand r reached refl in
    let fits : open_levels r.stack + state_levels r.state ≤ levels = reads_fit levels (drop from (take k ts)) [] states.Operand r reached (omega arith) in
    let e : Ends wider more r.stack r.state k = state_ends wider r.stack r.state k opened (omega (arith, fits, w)) in
    let here : k + length more ≡ length (take k ts ++ more) = omega (arith, length-take-le k ts within, length-append (take k ts) more) in
    (e.tree, answer_run ts levels from k r order within reached wider (omega (arith, w)) more ∙ e.ends ∙ ap (Tree e.tree) here)
