-- What more bytes change, and that bytes are read as one tree at most.
use Rattle.std.proofs.Common.{◌≡◌, ℕ, ◌+◌, List, [], ◌∷◌, ◌++◌, length, refl, sym, ◌∙◌, ap, subst, append_assoc, append-nil, Some}
use Rattle.xmi_text.specs.States.{start, complete, complete_by, cleared, cleared_by}
use Rattle.xmi_text.specs.Automaton.{step, step_by, fault, fault_by, end_fault_by}
use Rattle.xmi_text.specs.Reading.{state_from, marks_from, state_of, marks_of, fault_of, end_fault_of}
use Rattle.xmi_text.specs.Trees.{Nodes, Ends, Run, Element, Tree, Event, Opens, Says, Closes, events_of, Spells}
use Rattle.xmi_text.specs.declared.error.TextFault.{TextFault}
use Rattle.xmi_text.specs.declared.state.State.{State}
use Rattle.xmi_text.specs.declared.state.Mode.{Mode}
use Rattle.xmi_text.specs.declared.state.Mode.TheVariants.{Failed}
use Rattle.xmi_text.specs.declared.state.Ready.{Ready}
use Rattle.xmi_text.specs.declared.state.Ready.TheVariants.{Nothing, Data, Open, Empty, Close}
use Rattle.xmi_text.proofs.reading.Reached.{state_of-append, marks_of-append}

-- no mark waits behind the marks
pub cleared_idle : (s : State) (r : Ready) → s.ready ≡ r → (cleared_by s r).ready ≡ Nothing
cleared_idle s Nothing e = e
cleared_idle s Data e = refl
cleared_idle s Open e = refl
cleared_idle s Empty e = refl
cleared_idle s (Close at) e = refl

idle_from : (at : ℕ) (s : State) (bytes : List ℕ) → s.ready ≡ Nothing → (state_from at s bytes).ready ≡ Nothing
idle_from at s [] e = e
idle_from at s (b ∷ bytes) e =
    let t : State = step s at b in
    idle_from (at + 1) (cleared t) bytes (cleared_idle t t.ready refl)

pub idle_of : (bytes : List ℕ) → (state_of bytes).ready ≡ Nothing
unfolding state_of
idle_of bytes = idle_from 0 start bytes refl

-- the mode of a fault
pub failed_mode : (mode : Mode) (f : TextFault) → fault_by mode ≡ Some f → mode ≡ Failed f
failed_mode (Failed g) f e = cc
failed_mode _ f e = cc

-- a state with a fault stays as it is
stuck : (s : State) (f : TextFault) (at b : ℕ) → s.mode ≡ Failed f → step s at b ≡ s
stuck s f at b e = ap (step_by s at b) e

cleared_same : (s : State) → s.ready ≡ Nothing → cleared s ≡ s
cleared_same s e = ap (cleared_by s) e

complete_none : (s : State) → s.ready ≡ Nothing → complete s ≡ []
complete_none s e = ap (complete_by s) e

pub stuck_state : (at : ℕ) (s : State) (f : TextFault) (bytes : List ℕ) → s.mode ≡ Failed f → s.ready ≡ Nothing → state_from at s bytes ≡ s
stuck_state at s f [] e idle = refl
stuck_state at s f (b ∷ bytes) e idle =
    ap (λ t. state_from (at + 1) (cleared t) bytes) (stuck s f at b e)
    ∙ ap (λ t. state_from (at + 1) t bytes) (cleared_same s idle)
    ∙ stuck_state (at + 1) s f bytes e idle

pub stuck_marks : (at : ℕ) (s : State) (f : TextFault) (bytes : List ℕ) → s.mode ≡ Failed f → s.ready ≡ Nothing → marks_from at s bytes ≡ []
stuck_marks at s f [] e idle = refl
stuck_marks at s f (b ∷ bytes) e idle =
    ap (λ t. complete t ++ marks_from (at + 1) (cleared t) bytes) (stuck s f at b e)
    ∙ ap (λ ms. ms ++ marks_from (at + 1) (cleared s) bytes) (complete_none s idle)
    ∙ ap (λ t. marks_from (at + 1) t bytes) (cleared_same s idle)
    ∙ stuck_marks (at + 1) s f bytes e idle

pub fault_stays : (bytes more : List ℕ) (f : TextFault) → fault_of bytes ≡ Some f → fault_of (bytes ++ more) ≡ Some f
unfolding fault_of
fault_stays bytes more f e =
    let s : State = state_of bytes in
    ap fault (state_of-append bytes more ∙ stuck_state (length bytes) s f more (failed_mode s.mode f e) (idle_of bytes)) ∙ e

-- and is that of the same bytes where they end
pub fault_ends : (bytes : List ℕ) (f : TextFault) → fault_of bytes ≡ Some f → end_fault_of bytes ≡ Some f
unfolding fault_of end_fault_of
fault_ends bytes f e = let s : State = state_of bytes in ap (end_fault_by s (length bytes)) (failed_mode s.mode f e)

pub marks_end : (bytes more : List ℕ) (f : TextFault) → fault_of bytes ≡ Some f → marks_of (bytes ++ more) ≡ marks_of bytes
unfolding fault_of
marks_end bytes more f e =
    let s : State = state_of bytes in
    marks_of-append bytes more
    ∙ ap (λ ms. marks_of bytes ++ ms) (stuck_marks (length bytes) s f more (failed_mode s.mode f e) (idle_of bytes))
    ∙ append-nil (marks_of bytes)

-- events at which nodes end
Stops : List Event → Type 0
Stops [] = Unit {0}
Stops (Closes ∷ rest) = Unit {0}
Stops (Opens name attrs ∷ rest) = ⊥
Stops (Says characters ∷ rest) = ⊥

-- nodes are read off their events in one way
one_reading : (f g : Nodes) (x y : List Event) → Stops x → Stops y → events_of f ++ x ≡ events_of g ++ y → (f ≡ g) × (x ≡ y)
unfolding Stops
one_reading Ends Ends x y p q e = (refl, e)
one_reading Ends (Run cs g) x y p q e = absurd (subst Stops e p)
one_reading Ends (Element n ps i g) x y p q e = absurd (subst Stops e p)
one_reading (Run cs f) Ends x y p q e = absurd (subst Stops (sym e) q)
one_reading (Element n ps i f) Ends x y p q e = absurd (subst Stops (sym e) q)
one_reading (Run cs f) (Element n ps i g) x y p q e = cc
one_reading (Element n ps i f) (Run cs g) x y p q e = cc
one_reading (Run cs f) (Run ds g) x y p q e =
    let tails : events_of f ++ x ≡ events_of g ++ y = cc in
    let r = one_reading f g x y p q tails in
    let same : cs ≡ ds = cc in
    (ap (λ c. Run c f) same ∙ ap (Run ds) r.0, r.1)
one_reading (Element n ps i f) (Element m bs j g) x y p q e =
    let tails : (events_of i ++ Closes ∷ events_of f) ++ x ≡ (events_of j ++ Closes ∷ events_of g) ++ y = cc in
    let inner = one_reading i j (Closes ∷ (events_of f ++ x)) (Closes ∷ (events_of g ++ y)) tt tt
    (sym (append_assoc (events_of i) (Closes ∷ events_of f) x) ∙ tails ∙ append_assoc (events_of j) (Closes ∷ events_of g) y) in
    let second : Closes ∷ (events_of f ++ x) ≡ Closes ∷ (events_of g ++ y) = inner.1 in
    let rest : events_of f ++ x ≡ events_of g ++ y = cc in
    let outer = one_reading f g x y p q rest in
    let names : n ≡ m = cc in
    let attrs : ps ≡ bs = cc in
    (ap (λ k. Element k ps i f) names ∙ ap (λ k. Element m k i f) attrs ∙ ap (λ k. Element m bs k f) inner.0 ∙ ap (Element m bs j) outer.0, outer.1)

root_inner : Nodes → Tree
root_inner (Element n ps i more) = record { name = n; attrs = ps; inner = i }
root_inner Ends = record { name = []; attrs = []; inner = Ends }
root_inner (Run cs more) = record { name = []; attrs = []; inner = Ends }

pub one_spelled : (bytes : List ℕ) (t u : Tree) → Spells bytes t → Spells bytes u → t ≡ u
unfolding root_inner Stops
one_spelled bytes t u p q =
    let f : Nodes = Element t.name t.attrs t.inner Ends in
    let g : Nodes = Element u.name u.attrs u.inner Ends in
    let same = one_reading f g [] [] tt tt (append-nil (events_of f) ∙ sym p.read ∙ q.read ∙ sym (append-nil (events_of g))) in
    ap root_inner same.0
