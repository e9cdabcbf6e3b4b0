-- Behind the bytes that begin a document no mark is complete, but that of the run before an element too deep.
use Rattle.std.proofs.Common.{◌≡◌, ℕ, ◌+◌, ◌⊎◌, List, [], ◌∷◌, ◌++◌, length, take, drop, refl, sym, ◌∙◌, ap, subst, Some, inl, inr, append-nil}
use Rattle.std.proofs.Math.Seq.{take-add}
use Rattle.std.proofs.lemmas.List.{take-append-drop}
use Rattle.xmi_text.specs.States.{complete, cleared}
use Rattle.xmi_text.specs.Automaton.{step, step_by, end_fault_by}
use Rattle.xmi_text.specs.Reading.{state_from, marks_from, state_of, marks_of, end_fault_of}
use Rattle.xmi_text.specs.Markup.{Begins}
use Rattle.xmi_text.specs.declared.error.TextFault.{TextFault}
use Rattle.xmi_text.specs.declared.error.TextKind.TheVariants as kinds
use Rattle.xmi_text.specs.declared.mark.Mark.{Mark}
use Rattle.xmi_text.specs.declared.state.State.{State}
use Rattle.xmi_text.specs.declared.state.Mode.{Mode}
use Rattle.xmi_text.specs.declared.state.Mode.TheVariants as modes
use Rattle.xmi_text.specs.declared.state.Ready.{Ready}
use Rattle.xmi_text.specs.declared.state.Ready.TheVariants as ready
use Rattle.xmi_text.proofs.reading.Reached.{state_of-append, marks_of-append}
use Rattle.xmi_text.proofs.reading.Staying.{cleared_idle, idle_of, stuck_state}
use Rattle.xmi_text.proofs.completion.Sound.{IsSound, sound_of, next_sound}
use Rattle.xmi_text.proofs.completion.Ending.{IsDead, Dead, dead_step, dead_cleared, open_or_dead}
use Rattle.xmi_text.proofs.backward.Whole.{goes_on_begins}
use Rattle.xmi_text.proofs.faults.History.{cleared_mode, cleared_partial}
use Rattle.xmi_text.proofs.forward.Silent.{Silent, Limited, resting, step_silent, dead_silent}

same_rest : (s : State) → s.ready ≡ ready.Nothing → resting s s.mode s.partial ≡ s
same_rest s e = ap (λ (r : Ready). record s { ready = r }) (sym e)

-- a byte whose state is dead
silent_byte : (s : State) (at b : ℕ) → s.ready ≡ ready.Nothing → IsSound s → Dead (cleared (step s at b)) → (complete (step s at b) ≡ []) ⊎ Limited (step s at b).mode
silent_byte s at b e p d =
    let t : State = step s at b in
    let quiet : Silent t = subst (λ (q : State). Silent (step_by q at b s.mode)) (same_rest s e) (step_silent s s.mode s.partial at b p.cut) in
    let dead : IsDead (cleared t) t.mode t.partial = subst (λ (m : Mode). IsDead (cleared t) m t.partial) (cleared_mode t t.ready) (subst (IsDead (cleared t) (cleared t).mode) (cleared_partial t t.ready) d) in
    dead_silent t (cleared t) t.ready t.partial t.mode quiet dead

limited_fault : (m : Mode) → Limited m → (f : TextFault) × (m ≡ modes.Failed f)
limited_fault (modes.Failed f) l = (f, refl)
limited_fault _ l = absurd l

-- an element too deep stays one
limited_stays : (at : ℕ) (t : State) (bytes : List ℕ) → Limited t.mode → Limited (state_from at (cleared t) bytes).mode
limited_stays at t bytes l =
    let f = limited_fault t.mode l in
    let same : state_from at (cleared t) bytes ≡ cleared t = stuck_state at (cleared t) f.0 bytes (cleared_mode t t.ready ∙ f.1) (cleared_idle t t.ready refl) in
    subst Limited (sym (ap (λ (q : State). q.mode) same ∙ cleared_mode t t.ready)) l

none_from : (at : ℕ) (s : State) (bytes : List ℕ) → s.ready ≡ ready.Nothing → IsSound s → Dead s → (Limited (state_from at s bytes).mode → ⊥) → marks_from at s bytes ≡ []
none_from at s [] e p d n = refl
none_from at s (b ∷ bytes) e p d n =
    let t : State = step s at b in
    let dead : Dead (cleared t) = dead_cleared t t.ready t.mode t.partial refl refl (dead_step s at b s.mode s.partial refl refl p.cut d) in
    elim (silent_byte s at b e p dead) [
      | inl none ↦ ap (λ (ms : List Mark). ms ++ marks_from (at + 1) (cleared t) bytes) none ∙ none_from (at + 1) (cleared t) bytes (cleared_idle t t.ready refl) (next_sound s at b p) dead n
      | inr l ↦ absurd (n (limited_stays (at + 1) t bytes l))
    ]

-- the byte with which the bytes begin no document, and those behind it
none_behind : (at : ℕ) (s : State) (b : ℕ) (bytes : List ℕ) → s.ready ≡ ready.Nothing → IsSound s → Dead (cleared (step s at b)) → (Limited (state_from at s (b ∷ bytes)).mode → ⊥) → marks_from at s (b ∷ bytes) ≡ []
none_behind at s b bytes e p dead n =
    let t : State = step s at b in
    elim (silent_byte s at b e p dead) [
      | inl none ↦ ap (λ (ms : List Mark). ms ++ marks_from (at + 1) (cleared t) bytes) none ∙ none_from (at + 1) (cleared t) bytes (cleared_idle t t.ready refl) (next_sound s at b p) dead n
      | inr l ↦ absurd (n (limited_stays (at + 1) t bytes l))
    ]

limited_end : (s : State) (n : ℕ) (f : TextFault) (m : Mode) → Limited m → end_fault_by s n m ≡ Some f → f.kind ≡ kinds.Limit
limited_end s n f (modes.Failed g) l e = let same : g ≡ f = cc in ap (λ (h : TextFault). h.kind) (sym same) ∙ l
limited_end s n f _ l e = absurd l

pub dead_of : (bytes : List ℕ) → ¬ Begins bytes → Dead (state_of bytes)
unfolding end_fault_of
dead_of bytes n =
    let s : State = state_of bytes in
    elim (open_or_dead s s.mode s.partial (length bytes) refl (sound_of bytes).cut) [ inl o ↦ absurd (n (goes_on_begins bytes o)) | inr d ↦ d ]

stop_by : (bytes front : List ℕ) (b : ℕ) (rest : List ℕ) (f : TextFault) → bytes ≡ front ++ b ∷ rest → ¬ Begins (front ++ b ∷ []) → end_fault_of bytes ≡ Some f → ¬ (f.kind ≡ kinds.Limit) → marks_of bytes ≡ marks_of front
unfolding end_fault_of
stop_by bytes front b rest f is n e k =
    let s : State = state_of front in
    let at : ℕ = length front in
    let dead : Dead (cleared (step s at b)) = subst Dead (state_of-append front (b ∷ [])) (dead_of (front ++ b ∷ []) n) in
    let last : state_of bytes ≡ state_from at s (b ∷ rest) = ap state_of is ∙ state_of-append front (b ∷ rest) in
    let free : Limited (state_from at s (b ∷ rest)).mode → ⊥ = λ l. k (limited_end (state_of bytes) (length bytes) f (state_of bytes).mode (subst (λ (q : State). Limited q.mode) (sym last) l) e) in
    ap marks_of is
    ∙ marks_of-append front (b ∷ rest)
    ∙ ap (λ (ms : List Mark). marks_of front ++ ms) (none_behind at s b rest (idle_of front) (sound_of front) dead free)
    ∙ append-nil (marks_of front)

stop_at : (bytes : List ℕ) (n : ℕ) (behind : List ℕ) (f : TextFault) → drop n bytes ≡ behind → ¬ Begins (take (n + 1) bytes) → end_fault_of bytes ≡ Some f → ¬ (f.kind ≡ kinds.Limit) → marks_of bytes ≡ marks_of (take n bytes)
stop_at bytes n [] f d m e k = ap marks_of (sym (ap (λ (xs : List ℕ). take n bytes ++ xs) (sym d) ∙ take-append-drop n bytes) ∙ append-nil (take n bytes))
stop_at bytes n (b ∷ rest) f d m e k =
    let first : take (n + 1) bytes ≡ take n bytes ++ b ∷ [] = take-add n 1 bytes ∙ ap (λ (xs : List ℕ). take n bytes ++ take 1 xs) d in
    stop_by bytes (take n bytes) b rest f (sym (take-append-drop n bytes) ∙ ap (λ (xs : List ℕ). take n bytes ++ xs) d) (subst (λ (xs : List ℕ). ¬ Begins xs) first m) e k

pub marks_stop : (bytes : List ℕ) (n : ℕ) (f : TextFault) → end_fault_of bytes ≡ Some f → ¬ (f.kind ≡ kinds.Limit) → ¬ Begins (take (n + 1) bytes) → marks_of bytes ≡ marks_of (take n bytes)
marks_stop bytes n f e k m = stop_at bytes n (drop n bytes) f refl m e k
