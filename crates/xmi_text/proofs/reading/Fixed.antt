-- Where the bytes so far fix the next answer, and where they leave it open.
use Rattle.std.proofs.Common.{◌≡◌, ◌⊎◌, ℕ, true, false, List, [], ◌∷◌, ◌++◌, length, drop, refl, sym, ◌∙◌, ap, subst, arith, append-nil, Bool, Option, Some, None, inl, inr, Result, Ok, Err}
use Rattle.std.proofs.lemmas.List.{drop-append-le}
use Rattle.std.proofs.lemmas.Bool.{cases_Bool}
use Rattle.xmi_text.specs.Automaton.{end_fault, fault, fault_by}
use Rattle.xmi_text.specs.Fixing.{next_of, answer_so_far, Fixes, LeavesOpen, Tells}
use Rattle.xmi_text.specs.Reading.{Fed, marks_from, state_of, marks_of, fault_of, end_fault_of, answer, answer_by, last_by, or_fault, Answers}
use Rattle.xmi_text.specs.declared.error.TextError.{TextError}
use Rattle.xmi_text.specs.declared.error.TextError.TheVariants as errors
use Rattle.xmi_text.specs.declared.error.TextFault.{TextFault}
use Rattle.xmi_text.specs.declared.mark.Mark.{Mark}
use Rattle.xmi_text.specs.declared.mark.Mark.TheVariants as marks
use Rattle.xmi_text.specs.declared.mark.Step.{Step}
use Rattle.xmi_text.specs.declared.mark.Step.TheVariants as answers
use Rattle.xmi_text.specs.declared.state.State.{State}
use Rattle.xmi_text.specs.declared.state.Mode.{Mode}
use Rattle.xmi_text.specs.declared.state.Mode.TheVariants as modes
use Rattle.xmi_text.proofs.reading.Reached.{drop_next, state_of-append, marks_of-append}
use Rattle.xmi_text.proofs.reading.Staying.{fault_stays, fault_ends, marks_end}
use Rattle.xmi_text.proofs.faults.Reasons.{Goes}
use Rattle.xmi_text.proofs.reading.Breaking.{Breaks, broken}

-- ---- the next answer

next_mark : (bytes : List ℕ) (given : ℕ) (m : Mark) (rest : List Mark) → drop given (marks_of bytes) ≡ m ∷ rest → next_of bytes given ≡ Ok (answers.Mark m)
unfolding answer
next_mark bytes given m rest e = ap (answer_by (record { bytes = bytes; finished = true; given = given })) e

next_last : (bytes : List ℕ) (given : ℕ) → drop given (marks_of bytes) ≡ [] → next_of bytes given ≡ or_fault (answers.Mark marks.End) (end_fault_of bytes)
unfolding answer end_fault_of
next_last bytes given e = ap (answer_by (record { bytes = bytes; finished = true; given = given })) e

far_mark : (bytes : List ℕ) (given : ℕ) (m : Mark) (rest : List Mark) → drop given (marks_of bytes) ≡ m ∷ rest → answer_so_far bytes given ≡ Ok (answers.Mark m)
unfolding answer
far_mark bytes given m rest e = ap (answer_by (record { bytes = bytes; finished = false; given = given })) e

far_last : (bytes : List ℕ) (given : ℕ) → drop given (marks_of bytes) ≡ [] → answer_so_far bytes given ≡ or_fault answers.NotYet (fault_of bytes)
unfolding answer fault_of
far_last bytes given e = ap (answer_by (record { bytes = bytes; finished = false; given = given })) e

-- ---- what is fixed

-- a mark that is left
mark_fixed : (bytes : List ℕ) (given : ℕ) (m : Mark) (rest : List Mark) → drop given (marks_of bytes) ≡ m ∷ rest → Fixes bytes given (Ok (answers.Mark m))
mark_fixed bytes given m rest e more =
    let p = drop_next (marks_of bytes) given m rest e in
    let told : List Mark = marks_from (length bytes) (state_of bytes) more in
    next_mark (bytes ++ more) given m (rest ++ told)
    (ap (drop given) (marks_of-append bytes more) ∙ drop-append-le given (marks_of bytes) told (omega (arith, p.1)) ∙ ap (λ (ms : List Mark). ms ++ told) e)

-- a fault behind all marks
fault_fixed : (bytes : List ℕ) (given : ℕ) (f : TextFault) → drop given (marks_of bytes) ≡ [] → fault_of bytes ≡ Some f → Fixes bytes given (Err (errors.Fault f))
fault_fixed bytes given f e g more =
    next_last (bytes ++ more) given (ap (drop given) (marks_end bytes more f g) ∙ e)
    ∙ ap (or_fault (answers.Mark marks.End)) (fault_ends (bytes ++ more) f (fault_stays bytes more f g))

-- ---- what is open

end_fails : (o : Option TextFault) (f : TextFault) → or_fault (answers.Mark marks.End) o ≡ Err (errors.Fault f) → o ≡ Some f
end_fails None f e = cc
end_fails (Some g) f e = let same : g ≡ f = cc in ap (λ (h : TextFault). Some h) same

none_goes : (m : Mode) → fault_by m ≡ None → Goes m
none_goes (modes.Failed f) e = cc
none_goes _ e = tt

left_open : (bytes : List ℕ) (given : ℕ) → drop given (marks_of bytes) ≡ [] → fault_of bytes ≡ None → LeavesOpen bytes given
unfolding fault_of end_fault_of
left_open bytes given e n =
    let s : State = state_of bytes in
    let b : Breaks s (length bytes) = broken bytes (none_goes s.mode n) in
    let behind : List ℕ = bytes ++ b.more in
    let silent : marks_of behind ≡ marks_of bytes = marks_of-append bytes b.more ∙ ap (λ (ms : List Mark). marks_of bytes ++ ms) b.silent ∙ append-nil (marks_of bytes) in
    let ends : fault_of behind ≡ Some b.fault = ap fault (state_of-append bytes b.more) ∙ ap fault_by b.failed in
    record {
      one = [];
      other = b.more;
      one_bytes = refl;
      other_bytes = b.bytes;
      differ = λ same.
          b.differs
          (end_fails (end_fault_of bytes) b.fault
          (sym (next_last bytes given e) ∙ ap (λ (xs : List ℕ). next_of xs given) (sym (append-nil bytes)) ∙ same
          ∙ next_last behind given (ap (drop given) silent ∙ e) ∙ ap (or_fault (answers.Mark marks.End)) (fault_ends behind b.fault ends)));
    }

-- ---- one of the two

abbrev IsAnswer : Result Step TextError → Type 0
IsAnswer result = ¬ (result ≡ Ok answers.NotYet)

mark_answer : (m : Mark) → IsAnswer (Ok (answers.Mark m))
mark_answer m e = cc

fault_answer : (f : TextFault) → IsAnswer (Err (errors.Fault f))
fault_answer f e = cc

-- an answer that nothing changes
record Settled (bytes : List ℕ) (given : ℕ) : Type 0 where
  pub result : Result Step TextError
  pub is : answer_so_far bytes given ≡ result
  pub told : IsAnswer result
  pub fixed : Fixes bytes given result

abbrev Either : List ℕ → ℕ → Type 0
Either bytes given = ((answer_so_far bytes given ≡ Ok answers.NotYet) × LeavesOpen bytes given) ⊎ Settled bytes given

either_by : (bytes : List ℕ) (given : ℕ) (ms : List Mark) (o : Option TextFault) → drop given (marks_of bytes) ≡ ms → fault_of bytes ≡ o → Either bytes given
either_by bytes given (m ∷ rest) o e n = inr (record { result = Ok (answers.Mark m); is = far_mark bytes given m rest e; told = mark_answer m; fixed = mark_fixed bytes given m rest e })
either_by bytes given [] None e n = inl (far_last bytes given e ∙ ap (or_fault answers.NotYet) n, left_open bytes given e n)
either_by bytes given [] (Some f) e n =
    inr (record { result = Err (errors.Fault f); is = far_last bytes given e ∙ ap (or_fault answers.NotYet) n; told = fault_answer f; fixed = fault_fixed bytes given f e n })

either : (bytes : List ℕ) (given : ℕ) → Either bytes given
either bytes given = either_by bytes given (drop given (marks_of bytes)) (fault_of bytes) refl refl

pub not_yet_open : (bytes : List ℕ) (given : ℕ) → answer_so_far bytes given ≡ Ok answers.NotYet → LeavesOpen bytes given
not_yet_open bytes given e = elim (either bytes given) [ inl p ↦ p.1 | inr r ↦ absurd (r.told (sym r.is ∙ e)) ]

pub open_not_yet : (bytes : List ℕ) (given : ℕ) → LeavesOpen bytes given → answer_so_far bytes given ≡ Ok answers.NotYet
open_not_yet bytes given l = elim (either bytes given) [ inl p ↦ p.0 | inr r ↦ absurd (l.differ (r.fixed l.one ∙ sym (r.fixed l.other))) ]

pub given_fixed : (bytes : List ℕ) (given : ℕ) (result : Result Step TextError) → (answer_so_far bytes given ≡ result) × IsAnswer result → Fixes bytes given result
given_fixed bytes given result p more = elim (either bytes given) [ inl q ↦ absurd (p.1 (sym p.0 ∙ q.0)) | inr r ↦ r.fixed more ∙ sym r.is ∙ p.0 ]

pub fixed_given : (bytes : List ℕ) (given : ℕ) (result : Result Step TextError) → Fixes bytes given result → (answer_so_far bytes given ≡ result) × IsAnswer result
fixed_given bytes given result f = elim (either bytes given) [
  | inl q ↦ (let l = q.1 in absurd (l.differ (f l.one ∙ sym (f l.other))))
  | inr r ↦ (let same : r.result ≡ result = sym (r.fixed []) ∙ f [] in (r.is ∙ same, λ n. r.told (same ∙ n)))
]

-- ---- what a reader's answer tells

end_told : (o : Option TextFault) → IsAnswer (or_fault (answers.Mark marks.End) o)
end_told None = mark_answer marks.End
end_told (Some f) = fault_answer f

-- a text that ends has an answer
ended_by : (fed : Fed) (ms : List Mark) → fed.finished ≡ true → IsAnswer (answer_by fed ms)
ended_by fed [] e =
    let s : State = state_of fed.bytes in
    let n : ℕ = length fed.bytes in
    subst (λ (b : Bool). IsAnswer (last_by b s n)) (sym e) (end_told (end_fault s n))
ended_by fed (m ∷ rest) e = mark_answer m

ended : (fed : Fed) → fed.finished ≡ true → IsAnswer (answer fed)
unfolding answer
ended fed e = ended_by fed (drop fed.given (marks_of fed.bytes)) e

unended : (fed : Fed) → fed.finished ≡ false → answer fed ≡ answer_so_far fed.bytes fed.given
unended fed e = ap (λ (b : Bool). answer (record fed { finished = b })) e

fixes : (fed : Fed) (result : Result Step TextError) → IsAnswer result → result ≡ answer fed → fed.finished ≡ false → Fixes fed.bytes fed.given result
fixes fed result t e f = given_fixed fed.bytes fed.given result (sym (unended fed f) ∙ sym e, t)

pub tells : (fed : Fed) (result : Result Step TextError) → Answers result (answer fed) → Tells result fed
tells fed (Ok answers.NotYet) e = elim (cases_Bool fed.finished) [
  | inl t ↦ absurd (ended fed t (sym e))
  | inr f ↦ (f, not_yet_open fed.bytes fed.given (sym (unended fed f) ∙ sym e))
]
tells fed (Ok (answers.Mark m)) e = fixes fed (Ok (answers.Mark m)) (mark_answer m) e
tells fed (Err errors.NoMemory) e = tt
tells fed (Err (errors.Fault g)) e = fixes fed (Err (errors.Fault g)) (fault_answer g) e
