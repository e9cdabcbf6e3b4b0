-- The run before an element too deep is read as before an end tag.
use Rattle.std.proofs.Common.{◌≡◌, ℕ, ◌+◌, ◌⊎◌, true, false, List, [], ◌∷◌, ◌++◌, length, take, refl, sym, ◌∙◌, ap, ap₂, Some, inl, inr, append-nil, codes}
use Rattle.std.specs.Prelude.{◌||◌, nat_lt}
use Rattle.std.specs.Str.{all_scalars}
use Rattle.std.proofs.lemmas.Bool.{cond-true, cond-false, or_left, or_right}
use lib.Utf8.{encode, scalar}
use Rattle.xmi_text.specs.declared.limits.TheConstants.{MAX_XMI_NESTING}
use Rattle.xmi_text.specs.ByteClass.{begins_name}
use Rattle.xmi_text.specs.Names.{is_far}
use Rattle.xmi_text.specs.States as states
use Rattle.xmi_text.specs.States.{is_inside, complete, complete_by, cleared}
use Rattle.xmi_text.specs.Steps as steps
use Rattle.xmi_text.specs.Reading.{state_from, marks_from, state_of, marks_of, end_fault_of}
use Rattle.xmi_text.specs.Places.{marks_only}
use Rattle.xmi_text.specs.declared.error.TextFault.{TextFault}
use Rattle.xmi_text.specs.declared.error.TextKind.TheVariants as kinds
use Rattle.xmi_text.specs.declared.mark.Mark.{Mark}
use Rattle.xmi_text.specs.declared.mark.Mark.TheVariants as marks
use Rattle.xmi_text.specs.declared.state.State.{State}
use Rattle.xmi_text.specs.declared.state.Mode.{Mode}
use Rattle.xmi_text.specs.declared.state.Mode.TheVariants as modes
use Rattle.xmi_text.proofs.reading.Reached.{marks_of-append, marks_from-append}
use Rattle.xmi_text.proofs.reading.Staying.{cleared_idle, stuck_marks}
use Rattle.xmi_text.proofs.forward.Walks.{timed_from-only, all_by-only}
use Rattle.xmi_text.proofs.forward.Encoded.{at_mode, within_character}
use Rattle.xmi_text.proofs.forward.Stepping.{one_character}
use Rattle.xmi_text.proofs.forward.Asides.{begins_low, begins_high}
use Rattle.xmi_text.proofs.forward.TagSteps.{less_low, less_high, whole_of}
use Rattle.xmi_text.proofs.backward.Backward.{in_mode}
use Rattle.xmi_text.proofs.faults.Reasons.{IsRound}
use Rattle.xmi_text.proofs.faults.History.{cleared_mode}
use Rattle.xmi_text.proofs.faults.Probing.{shape, take_front}
use Rattle.xmi_text.proofs.faults.Depths.{deep}

-- behind a `<`
abbrev behind_less : State → ℕ → State
behind_less s at = at_mode s (modes.Less at) false

less_marks : (s : State) (m : Mode) (at : ℕ) (more : List ℕ) → IsRound m → marks_from at (in_mode s m) (60 ∷ more) ≡ marks_from (at + 1) (behind_less s at) more
less_marks s modes.Start at more r = refl
less_marks s modes.Outside at more r = refl
less_marks s modes.Inside at more r = refl
less_marks s _ at more r = absurd r

deep_element : (s : State) (place at c : ℕ) → is_inside s ≡ true → nat_lt (length s.elements) MAX_XMI_NESTING ≡ false → steps.begin_element s place at c ≡ steps.too_deep s place
deep_element s place at c i f = cond-true (is_inside s) _ _ i ∙ cond-false (nat_lt (length s.elements) MAX_XMI_NESTING) _ _ f

-- the fault, with the mark of the run
abbrev limited : State → ℕ → State
limited s at = steps.too_deep (behind_less s at) at

-- no bytes behind it complete more
deep_marks : (s : State) (at c : ℕ) (rest : List ℕ) → is_inside s ≡ true → nat_lt (length s.elements) MAX_XMI_NESTING ≡ false → scalar c ≡ true → (begins_name c || is_far c) ≡ true → marks_from (at + 1) (behind_less s at) (encode c ++ rest) ≡ complete (limited s at)
deep_marks s at c rest i f ok e =
    let t : State = limited s at in
    let w = one_character (at + 1) s (modes.Less at) false c t tt ok
    (λ l. less_low s at (at + 1) c (begins_low c e l) ∙ deep_element (behind_less s at) at (at + 1) c i f)
    (λ l p last b. less_high s at p last c (begins_high c e l) ∙ ap whole_of (deep_element (within_character s (modes.Less at) false p) at p.lead c i f)) in
    let here : marks_from (at + 1) (behind_less s at) (encode c) ≡ complete t =
    sym (timed_from-only (at + 1) (behind_less s at) (encode c)) ∙ ap marks_only w.marks ∙ all_by-only (at + 1 + length (encode c)) (complete t) in
    let more : marks_from (at + 1 + length (encode c)) (state_from (at + 1) (behind_less s at) (encode c)) rest ≡ [] =
    ap (λ (q : State). marks_from (at + 1 + length (encode c)) q rest) w.state
    ∙ stuck_marks (at + 1 + length (encode c)) (cleared t) (record { kind = kinds.Limit; at = at }) rest (cleared_mode t t.ready) (cleared_idle t t.ready refl) in
    marks_from-append (encode c) rest (at + 1) (behind_less s at) ∙ ap₂ (λ (x y : List Mark). x ++ y) here more ∙ append-nil (complete t)

same_run : (t u : State) (run : List ℕ) → t.run ≡ u.run → t.run_at ≡ u.run_at → complete_by t (states.due run) ≡ complete_by u (states.due run)
same_run t u [] e f = refl
same_run t u (c ∷ run) e f = ap₂ (λ (cs : List ℕ) (n : ℕ). marks.Data cs n ∷ []) e f

-- an end tag completes the same run
end_marks : (s : State) (at : ℕ) → is_inside s ≡ true → marks_from (at + 1) (behind_less s at) (47 ∷ []) ≡ complete (limited s at)
end_marks s at i =
    let q : State = behind_less s at in
    ap (λ (t : State). complete t ++ []) (cond-true (is_inside q) (states.begin_end q at) (states.fail q kinds.BadMark (at + 1)) i)
    ∙ append-nil (complete (states.begin_end q at))
    ∙ same_run (states.begin_end q at) (limited s at) s.run refl refl

begins_with : (c : ℕ) → (begins_name c ≡ true) ⊎ ((is_far c ≡ true) × (all_scalars (c ∷ []) ≡ true)) → (begins_name c || is_far c) ≡ true
begins_with c (inl e) = or_left (begins_name c) (is_far c) e
begins_with c (inr e) = or_right (begins_name c) (is_far c) e.0

pub limit_marks : (bytes : List ℕ) (f : TextFault) → end_fault_of bytes ≡ Some f → f.kind ≡ kinds.Limit → marks_of bytes ≡ marks_of (take f.at bytes ++ codes "</")
limit_marks bytes f e k =
    let h = deep bytes f e k in
    let s : State = state_of h.before in
    let at : ℕ = length h.before in
    let front : take f.at bytes ≡ h.before = take_front bytes h.before ((60 ∷ encode h.first) ++ h.rest) f.at h.is h.place in
    let behind : (more : List ℕ) → marks_of (h.before ++ 60 ∷ more) ≡ marks_of h.before ++ marks_from (at + 1) (behind_less s at) more =
    λ more. marks_of-append h.before (60 ∷ more)
    ∙ ap (λ (q : State). marks_of h.before ++ marks_from at q (60 ∷ more)) (shape h.before s.mode refl h.none)
    ∙ ap (λ (ms : List Mark). marks_of h.before ++ ms) (less_marks s s.mode at more h.round) in
    ap marks_of h.is
    ∙ behind (encode h.first ++ h.rest)
    ∙ ap (λ (ms : List Mark). marks_of h.before ++ ms) (deep_marks s at h.first h.rest h.inside h.full h.scalar (begins_with h.first h.begun) ∙ sym (end_marks s at h.inside))
    ∙ sym (behind (47 ∷ []))
    ∙ ap (λ (xs : List ℕ). marks_of (xs ++ codes "</")) (sym front)
