-- Stepping over bytes: the state behind them and the marks that they complete, each with the bytes that complete it.
use Rattle.std.proofs.Common.{◌≡◌, ℕ, ◌+◌, List, [], ◌∷◌, ◌++◌, length, refl, sym, ◌∙◌, ap, ap₂, arith, append-nil, append_assoc}
use Rattle.xmi_text.specs.States.{complete, cleared}
use Rattle.xmi_text.specs.Automaton.{step}
use Rattle.xmi_text.specs.Reading.{state_from, marks_from}
use Rattle.xmi_text.specs.Places.{Timed, timed, marks_only}
use Rattle.xmi_text.specs.declared.mark.Mark.{Mark}
use Rattle.xmi_text.specs.declared.state.State.{State}
use Rattle.xmi_text.proofs.reading.Reached.{state_from-append}

-- marks that so many bytes complete
abbrev pub all_by : ℕ → List Mark → List Timed
all_by n [] = []
all_by n (mark ∷ more) = timed n mark ∷ all_by n more

-- the marks that bytes from this place on complete
abbrev pub timed_from : ℕ → State → List ℕ → List Timed
timed_from at s [] = []
timed_from at s (b ∷ bytes) = all_by (at + 1) (complete (step s at b)) ++ timed_from (at + 1) (cleared (step s at b)) bytes

-- from one state to another
pub record Walk (at : ℕ) (s : State) (bytes : List ℕ) (ms : List Timed) (t : State) : Type 0 where
  pub state : state_from at s bytes ≡ t
  pub marks : timed_from at s bytes ≡ ms

marks_only-append : (xs ys : List Timed) → marks_only (xs ++ ys) ≡ marks_only xs ++ marks_only ys
marks_only-append [] ys = refl
marks_only-append (x ∷ xs) ys = ap (λ (ms : List Mark). x.mark ∷ ms) (marks_only-append xs ys)

pub all_by-only : (n : ℕ) (ms : List Mark) → marks_only (all_by n ms) ≡ ms
all_by-only n [] = refl
all_by-only n (m ∷ ms) = ap (λ (xs : List Mark). m ∷ xs) (all_by-only n ms)

-- they are the marks of the bytes
pub timed_from-only : (at : ℕ) (s : State) (bytes : List ℕ) → marks_only (timed_from at s bytes) ≡ marks_from at s bytes
timed_from-only at s [] = refl
timed_from-only at s (b ∷ bytes) =
    marks_only-append (all_by (at + 1) (complete (step s at b))) (timed_from (at + 1) (cleared (step s at b)) bytes)
    ∙ ap₂ (λ (x y : List Mark). x ++ y) (all_by-only (at + 1) (complete (step s at b))) (timed_from-only (at + 1) (cleared (step s at b)) bytes)

timed_from-append : (xs ys : List ℕ) (at : ℕ) (s : State) → timed_from at s (xs ++ ys) ≡ timed_from at s xs ++ timed_from (at + length xs) (state_from at s xs) ys
timed_from-append [] ys at s = ap (λ (n : ℕ). timed_from n s ys) (omega arith)
timed_from-append (x ∷ xs) ys at s =
    let t : State = cleared (step s at x) in
    let here : List Timed = all_by (at + 1) (complete (step s at x)) in
    let place : at + 1 + length xs ≡ at + length (x ∷ xs) = omega arith in
    ap (λ (ms : List Timed). here ++ ms) (timed_from-append xs ys (at + 1) t ∙ ap (λ (n : ℕ). timed_from (at + 1) t xs ++ timed_from n (state_from (at + 1) t xs) ys) place)
    ∙ sym (append_assoc here (timed_from (at + 1) t xs) (timed_from (at + length (x ∷ xs)) (state_from (at + 1) t xs) ys))

pub Walk-none : (at : ℕ) (s : State) → Walk at s [] [] s
Walk-none at s = record { state = refl; marks = refl }

-- one more byte
pub Walk-step : (at : ℕ) (s t u : State) (b : ℕ) (bytes : List ℕ) (ms : List Timed) → step s at b ≡ t → Walk (at + 1) (cleared t) bytes ms u → Walk at s (b ∷ bytes) (all_by (at + 1) (complete t) ++ ms) u
Walk-step at s t u b bytes ms e w = record {
  state = ap (λ q. state_from (at + 1) (cleared q) bytes) e ∙ w.state;
  marks = ap (λ q. all_by (at + 1) (complete q) ++ timed_from (at + 1) (cleared q) bytes) e ∙ ap (λ x. all_by (at + 1) (complete t) ++ x) w.marks;
}

-- one walk after another
pub Walk-append : (at : ℕ) (s t u : State) (xs ys : List ℕ) (ms ns : List Timed) → Walk at s xs ms t → Walk (at + length xs) t ys ns u → Walk at s (xs ++ ys) (ms ++ ns) u
Walk-append at s t u xs ys ms ns v w = record {
  state = state_from-append xs ys at s ∙ ap (λ q. state_from (at + length xs) q ys) v.state ∙ w.state;
  marks = timed_from-append xs ys at s
      ∙ ap (λ q. timed_from at s xs ++ timed_from (at + length xs) q ys) v.state
      ∙ ap₂ (λ (x y : List Timed). x ++ y) v.marks w.marks;
}

-- one byte
pub Walk-last : (at : ℕ) (s t : State) (b : ℕ) → step s at b ≡ t → Walk at s (b ∷ []) (all_by (at + 1) (complete t)) (cleared t)
Walk-last at s t b e = record {
  state = ap cleared e;
  marks = ap (λ q. all_by (at + 1) (complete q) ++ []) e ∙ append-nil (all_by (at + 1) (complete t));
}

-- the same walk, said otherwise
pub Walk-to : (at : ℕ) (s t u : State) (bytes : List ℕ) (ms ns : List Timed) → t ≡ u → ms ≡ ns → Walk at s bytes ms t → Walk at s bytes ns u
Walk-to at s t u bytes ms ns e f w = record { state = w.state ∙ e; marks = w.marks ∙ f }
