-- Where reading stops, and what more levels change.
use Rattle.std.proofs.Common.{◌≡◌, ℕ, suc, ◌+◌, ◌≤◌, Bool, true, false, nat_lt, if◌then◌else◌, List, [], ◌∷◌, ◌++◌, length, take, drop, Option, None, Some, ap, sym, ◌∙◌, refl, subst, arith}
use Rattle.std.proofs.lemmas.Bool.Decides.{nat_tests}
use Rattle.ql_lex.specs.Lexed.{Lexeme}
use Rattle.ql_lex.specs.Symbols.{symbol_of}
use Rattle.ocl_parser.specs.Moves.{Move, move, open_levels, state_levels}
use Rattle.ocl_parser.specs.Runs.{Answer, Tree, Stuck, Deep, run, go_on, ended_by}
use Rattle.ql_lex.specs.Symbols.{nowhere}
use Rattle.ocl_parser.specs.Completion.{Reading, reads}
use Rattle.ql_lex.specs.declared.symbol.Symbol.TheVariants as symbols
use Rattle.ocl_parser.specs.declared.frame.Frame.{Frame}
use Rattle.ocl_parser.specs.declared.state.State.{State}
use Rattle.ocl_parser.specs.declared.state.Action.{Action}
use Rattle.ocl_parser.specs.declared.state.Action.TheVariants as actions
use Rattle.ocl_parser.proofs.CompletionSteps.{by_move, run-step}
use Rattle.ocl_parser.proofs.CompletionReads.{FirstRead, first_read, reads_by, reads-step}

-- ---- one list behind another

pub record Between (levels : ℕ) (first rest : List Lexeme) (stack : List Frame) (state : State) (r : Reading) : Type 0 where
  pub middle : Reading
  pub before : reads levels first stack state ≡ Some middle
  pub behind : reads levels rest middle.stack middle.state ≡ Some r

reads_first : (levels : ℕ) (ls : List Lexeme) (m : Move) (next : State) → m.action ≡ actions.Read next → open_levels m.stack + state_levels next ≤ levels → reads_by levels ls m ≡ reads levels ls m.stack next
reads_first levels ls m next e fits = let small : nat_lt levels (open_levels m.stack + state_levels next) ≡ false = grind (arith, nat_tests) in rw (e, small) refl

pub reads_apart : (levels : ℕ) (first rest : List Lexeme) (stack : List Frame) (state : State) (r : Reading) → reads levels (first ++ rest) stack state ≡ Some r → Between levels first rest stack state r
unfolding reads
reads_apart levels [] rest stack state r e = record { middle = record { stack = stack; state = state }; before = refl; behind = e }
reads_apart levels (l ∷ ls) rest stack state r e =
    let m : Move = move stack state (symbol_of l) l.token.span in
    let f : FirstRead levels (ls ++ rest) m r = first_read levels (ls ++ rest) m r (sym (reads-step levels l (ls ++ rest) stack state) ∙ e) in
    let b : Between levels ls rest m.stack f.next r = reads_apart levels ls rest m.stack f.next r f.rest in
    record { middle = b.middle; before = reads-step levels l ls stack state ∙ reads_first levels ls m f.next f.is f.fits ∙ b.before; behind = b.behind }

pub reads_joined : (levels : ℕ) (first rest : List Lexeme) (stack : List Frame) (state : State) (middle r : Reading) → reads levels first stack state ≡ Some middle → reads levels rest middle.stack middle.state ≡ Some r
    → reads levels (first ++ rest) stack state ≡ Some r
unfolding reads
reads_joined levels [] rest stack state middle r e f =
    let is : middle ≡ record { stack = stack; state = state } = cc in
    subst (λ (x : Reading). reads levels rest x.stack x.state ≡ Some r) is f
reads_joined levels (l ∷ ls) rest stack state middle r e f =
    let m : Move = move stack state (symbol_of l) l.token.span in
    let g : FirstRead levels ls m middle = first_read levels ls m middle (sym (reads-step levels l ls stack state) ∙ e) in
    reads-step levels l (ls ++ rest) stack state ∙ reads_first levels (ls ++ rest) m g.next g.is g.fits ∙ reads_joined levels ls rest m.stack g.next middle r g.rest f

-- ---- more levels

pub reads_wider : (levels wider : ℕ) → levels ≤ wider → (ls : List Lexeme) (stack : List Frame) (state : State) (r : Reading) → reads levels ls stack state ≡ Some r → reads wider ls stack state ≡ Some r
unfolding reads
reads_wider levels wider w [] stack state r e = e
reads_wider levels wider w (l ∷ ls) stack state r e =
    let m : Move = move stack state (symbol_of l) l.token.span in
    let f : FirstRead levels ls m r = first_read levels ls m r (sym (reads-step levels l ls stack state) ∙ e) in
    reads-step wider l ls stack state ∙ reads_first wider ls m f.next f.is (omega (arith, f.fits, w)) ∙ reads_wider levels wider w ls m.stack f.next r f.rest

abbrev pub is_deep : Answer → Bool
is_deep (Deep at) = true
is_deep answer = false

wider_from : (levels wider at : ℕ) → levels ≤ wider → (ls : List Lexeme) (a : Answer) → is_deep a ≡ false → (m : Move) → ((next : State) → run levels ls m.stack next (at + 1) ≡ a → run wider ls m.stack next (at + 1) ≡ a)
    → by_move levels ls at m ≡ a → by_move wider ls at m ≡ a
wider_from levels wider at w ls a shallow m further = by m.action refl
  where
    deep : (next : State) (b : Bool) → nat_lt levels (open_levels m.stack + state_levels next) ≡ b → (if b then Deep at else run levels ls m.stack next (at + 1)) ≡ a
        → go_on wider m.stack next at (run wider ls m.stack next (at + 1)) ≡ a
    deep next true small k =
        let no : true ≡ false = subst (λ (x : Answer). is_deep x ≡ false) (sym k) shallow in
        cc
    deep next false small k =
        let wide : nat_lt wider (open_levels m.stack + state_levels next) ≡ false = grind (arith, nat_tests, w) in
        rw wide (further next k)

    by : (o : Action) → m.action ≡ o → by_move levels ls at m ≡ a → by_move wider ls at m ≡ a
    by (actions.Read next) is k = rw is (deep next (nat_lt levels (open_levels m.stack + state_levels next)) refl (rw is at k))
    by (actions.Whole tree) is k = rw is (rw is at k)
    by actions.Refused is k = rw is (rw is at k)

-- an answer that opens no level past the last stays with more levels
pub run_wider : (levels wider : ℕ) → levels ≤ wider → (ls : List Lexeme) (stack : List Frame) (state : State) (at : ℕ) (a : Answer) → is_deep a ≡ false → run levels ls stack state at ≡ a → run wider ls stack state at ≡ a
unfolding run
run_wider levels wider w [] stack state at a shallow e = e
run_wider levels wider w (l ∷ ls) stack state at a shallow e =
    let m : Move = move stack state (symbol_of l) l.token.span in
    run-step wider at stack state l ls
    ∙ wider_from levels wider at w ls a shallow m (λ next k. run_wider levels wider w ls m.stack next (at + 1) a shallow k) (sym (run-step levels at stack state l ls) ∙ e)

-- ---- where reading stops

-- what the first token that is not read makes the answer, or the end of the text
abbrev pub halts_by : ℕ → ℕ → Move → Option Answer
halts_by levels at m = elim m.action [
  | actions.Read next ↦ if nat_lt levels (open_levels m.stack + state_levels next) then Some (Deep at) else None
  | actions.Whole tree ↦ Some (Tree tree at)
  | actions.Refused ↦ Some (Stuck at)
]

abbrev pub halts : ℕ → List Lexeme → List Frame → State → ℕ → Option Answer
halts levels [] stack state at = Some (ended_by (move stack state symbols.Other nowhere).action at)
halts levels (l ∷ ls) stack state at = halts_by levels at (move stack state (symbol_of l) l.token.span)

-- so many tokens are read, and then reading stops with this answer
pub record Stops (levels : ℕ) (ls : List Lexeme) (stack : List Frame) (state : State) (at : ℕ) (a : Answer) : Type 0 where
  pub count : ℕ
  pub within : count ≤ length ls
  pub reading : Reading
  pub read : reads levels (take count ls) stack state ≡ Some reading
  pub halts : halts levels (drop count ls) reading.stack reading.state (at + count) ≡ Some a

stops_from : (levels at : ℕ) (l : Lexeme) (ls : List Lexeme) (stack : List Frame) (state : State) (a : Answer) (m : Move) → m ≡ move stack state (symbol_of l) l.token.span
    → ((next : State) → run levels ls m.stack next (at + 1) ≡ a → Stops levels ls m.stack next (at + 1) a) → by_move levels ls at m ≡ a → Stops levels (l ∷ ls) stack state at a
unfolding reads
stops_from levels at l ls stack state a m same further = by m.action refl
  where
    none : halts_by levels at m ≡ Some a → Stops levels (l ∷ ls) stack state at a
    none k = record {
      count = 0;
      within = omega arith;
      reading = record { stack = stack; state = state };
      read = refl;
      halts = (let here : at + 0 ≡ at = omega arith in ap (λ (x : ℕ). halts_by levels x (move stack state (symbol_of l) l.token.span)) here ∙ ap (halts_by levels at) (sym same) ∙ k);
    }

    deep : (next : State) → m.action ≡ actions.Read next → (b : Bool) → nat_lt levels (open_levels m.stack + state_levels next) ≡ b → (if b then Deep at else run levels ls m.stack next (at + 1)) ≡ a
        → Stops levels (l ∷ ls) stack state at a
    deep next is true small k = none (rw (is, small) (ap Some k))
    deep next is false small k =
        let s : Stops levels ls m.stack next (at + 1) a = further next k in
        record {
          count = suc s.count;
          within = omega (arith, s.within);
          reading = s.reading;
          read = reads-step levels l (take s.count ls) stack state ∙ ap (reads_by levels (take s.count ls)) (sym same) ∙ (let first : reads_by levels (take s.count ls) m ≡ reads levels (take s.count ls) m.stack next = rw (is, small) refl in first) ∙ s.read;
          halts = (let here : at + suc s.count ≡ at + 1 + s.count = omega arith in ap (halts levels (drop s.count ls) s.reading.stack s.reading.state) here ∙ s.halts);
        }

    by : (o : Action) → m.action ≡ o → by_move levels ls at m ≡ a → Stops levels (l ∷ ls) stack state at a
    by (actions.Read next) is k = deep next is (nat_lt levels (open_levels m.stack + state_levels next)) refl (rw is at k)
    by (actions.Whole tree) is k = none (rw is (ap Some (rw is at k)))
    by actions.Refused is k = none (rw is (ap Some (rw is at k)))

pub stops : (levels : ℕ) (ls : List Lexeme) (stack : List Frame) (state : State) (at : ℕ) (a : Answer) → run levels ls stack state at ≡ a → Stops levels ls stack state at a
unfolding run reads
stops levels [] stack state at a e = record {
  count = 0;
  within = omega arith;
  reading = record { stack = stack; state = state };
  read = refl;
  halts = (let here : at + 0 ≡ at = omega arith in ap (λ (x : ℕ). Some (ended_by (move stack state symbols.Other nowhere).action x)) here ∙ ap Some e);
}
stops levels (l ∷ ls) stack state at a e =
    let m : Move = move stack state (symbol_of l) l.token.span in
    stops_from levels at l ls stack state a m refl (λ next k. stops levels ls m.stack next (at + 1) a k) (sym (run-step levels at stack state l ls) ∙ e)
