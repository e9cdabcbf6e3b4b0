-- Marks of bytes: none is the end, and the list of elements grows with each.
use Rattle.std.proofs.Common.{◌≡◌, ℕ, zero, suc, ◌+◌, ◌≤◌, Bool, true, false, List, [], ◌∷◌, ◌++◌, length, take, drop, get_or, refl, sym, ◌∙◌, ap, arith, subst, append-nil, true≢false, None, Some, Ok, Err}
use Rattle.std.specs.Prelude.{Option, Result}
use Rattle.std.proofs.lemmas.List.{take-append-drop}
use Rattle.mof_metamodel.specs.Giving.{Gives}
use Rattle.mof_metamodel.specs.declared.desc.MetaDesc.{MetaDesc}
use Rattle.xmi_text.specs.declared.error.TextFault.{TextFault}
use Rattle.xmi_text.specs.declared.error.TextError.{TextError}
use Rattle.xmi_text.specs.declared.error.TextError.TheVariants as errors
use Rattle.xmi_text.specs.declared.mark.Mark.{Mark}
use Rattle.xmi_text.specs.declared.mark.Mark.TheVariants as marks
use Rattle.xmi_text.specs.declared.mark.Step.{Step}
use Rattle.xmi_text.specs.declared.mark.Step.TheVariants as answers
use Rattle.xmi_text.specs.declared.state.State.{State}
use Rattle.xmi_text.specs.declared.state.Ready.{Ready}
use Rattle.xmi_text.specs.declared.state.Ready.TheVariants as ready
use Rattle.xmi_text.specs.Automaton as automaton
use Rattle.xmi_text.specs.States.{start, complete, complete_by, cleared}
use Rattle.xmi_text.specs.Reading.{Fed, marks_of, marks_from, state_of, end_fault_of, answer, answer_by, after_answer, Answers, or_fault, last_by}
use Rattle.xmi_text.specs.Trees.{Event, told, with_event}
use Rattle.model_assembly.specs.declared.fault.Externs.{Externs}
use Rattle.xmi_profile.specs.Bytes.{next_by, next_of, text_fault, IsSaid, mark_of, behind_next}
use Rattle.xmi_profile.specs.Listing.{Listing, nothing, behind, listed}

-- ---- no mark is the end

abbrev is_end : Mark → Bool
is_end marks.End = true
is_end mark = false

abbrev NoEnds : List Mark → Type 0
NoEnds [] = Unit {0}
NoEnds (mark ∷ more) = (is_end mark ≡ false) × NoEnds more

no_ends_append : (xs ys : List Mark) → NoEnds xs → NoEnds ys → NoEnds (xs ++ ys)
no_ends_append [] ys a b = b
no_ends_append (x ∷ xs) ys a b = (a.0, no_ends_append xs ys a.1 b)

no_ends_drop : (n : ℕ) (xs : List Mark) → NoEnds xs → NoEnds (drop n xs)
no_ends_drop zero xs a = a
no_ends_drop (suc n) [] a = a
no_ends_drop (suc n) (x ∷ xs) a = no_ends_drop n xs a.1

no_ends_complete : (s : State) (r : Ready) → NoEnds (complete_by s r)
no_ends_complete s ready.Nothing = tt
no_ends_complete s ready.Data = (refl, tt)
no_ends_complete s ready.Open = (refl, tt)
no_ends_complete s ready.Empty = (refl, (refl, tt))
no_ends_complete s (ready.Close at) = (refl, tt)

no_ends_from : (at : ℕ) (s : State) (bytes : List ℕ) → NoEnds (marks_from at s bytes)
no_ends_from at s [] = tt
no_ends_from at s (b ∷ bytes) =
    no_ends_append (complete (automaton.step s at b)) (marks_from (at + 1) (cleared (automaton.step s at b)) bytes)
    (no_ends_complete (automaton.step s at b) (automaton.step s at b).ready)
    (no_ends_from (at + 1) (cleared (automaton.step s at b)) bytes)

no_ends : (bytes : List ℕ) → NoEnds (marks_of bytes)
unfolding marks_of
no_ends bytes = no_ends_from 0 start bytes

-- ---- answers of a reader

abbrev answered : Option TextFault → List Mark → Result Step TextError
answered fault [] = or_fault (answers.Mark marks.End) fault
answered fault (mark ∷ more) = Ok (answers.Mark mark)

answer_by_is : (fed : Fed) (ms : List Mark) → fed.finished ≡ true → answer_by fed ms ≡ answered (end_fault_of fed.bytes) ms
unfolding end_fault_of
answer_by_is fed [] e = ap (λ (b : Bool). last_by b (state_of fed.bytes) (length fed.bytes)) e
answer_by_is fed (m ∷ ms) e = refl

answer_is : (fed : Fed) → fed.finished ≡ true → answer fed ≡ answered (end_fault_of fed.bytes) (drop fed.given (marks_of fed.bytes))
unfolding answer
answer_is fed e = answer_by_is fed (drop fed.given (marks_of fed.bytes)) e

-- what an answer says of the next mark
abbrev Tells : Result Step TextError → Result (Option Mark) TextFault → Type 0
Tells (Ok (answers.Mark marks.End)) next = next ≡ Ok None
Tells (Ok (answers.Mark mark)) next = next ≡ Ok (Some mark)
Tells (Ok answers.NotYet) next = ⊥
Tells (Err (errors.Fault fault)) next = next ≡ Err fault
Tells (Err errors.NoMemory) next = Unit {0}

tells_by : (fault : Option TextFault) (ms : List Mark) → NoEnds ms → Tells (answered fault ms) (next_by fault ms)
tells_by None [] n = refl
tells_by (Some fault) [] n = refl
tells_by None (marks.Open name attrs at ∷ ms) n = refl
tells_by None (marks.Data text at ∷ ms) n = refl
tells_by None (marks.Close at ∷ ms) n = refl
tells_by None (marks.End ∷ ms) n = absurd (true≢false n.0)
tells_by (Some fault) (marks.Open name attrs at ∷ ms) n = refl
tells_by (Some fault) (marks.Data text at ∷ ms) n = refl
tells_by (Some fault) (marks.Close at ∷ ms) n = refl
tells_by (Some fault) (marks.End ∷ ms) n = absurd (true≢false n.0)

pub tells : (fed : Fed) (r : Result Step TextError) → fed.finished ≡ true → r ≡ answer fed → Tells r (next_of fed)
tells fed r e a =
    subst (λ (x : Result Step TextError). Tells x (next_of fed)) (sym (a ∙ answer_is fed e))
    (tells_by (end_fault_of fed.bytes) (drop fed.given (marks_of fed.bytes)) (no_ends_drop fed.given (marks_of fed.bytes) (no_ends fed.bytes)))

-- what is said of the next mark is so
pub said : (fed : Fed) (r : Result Step TextError) → fed.finished ≡ true → Answers r (answer fed) → IsSaid r
said fed (Ok (answers.Mark mark)) e a = tt
said fed (Ok answers.NotYet) e a = tells fed (Ok answers.NotYet) e a
said fed (Err fault) e a = tt

pub given : (fed : Fed) (r : Result Step TextError) → fed.finished ≡ true → Answers r (answer fed) → Gives text_fault (λ (mark : Option Mark). mark) (mark_of r) (next_of fed)
given fed (Ok (answers.Mark (marks.Open name attrs at))) e a = tells fed (Ok (answers.Mark (marks.Open name attrs at))) e a
given fed (Ok (answers.Mark (marks.Data text at))) e a = tells fed (Ok (answers.Mark (marks.Data text at))) e a
given fed (Ok (answers.Mark (marks.Close at))) e a = tells fed (Ok (answers.Mark (marks.Close at))) e a
given fed (Ok (answers.Mark marks.End)) e a = tells fed (Ok (answers.Mark marks.End)) e a
given fed (Ok answers.NotYet) e a = absurd (tells fed (Ok answers.NotYet) e a)
given fed (Err (errors.Fault fault)) e a = tells fed (Err (errors.Fault fault)) e a
given fed (Err errors.NoMemory) e a = tt

pub counted : (fed : Fed) (r : Result Step TextError) → IsSaid r → after_answer r fed ≡ behind_next (mark_of r) fed
counted fed (Ok (answers.Mark (marks.Open name attrs at))) s = refl
counted fed (Ok (answers.Mark (marks.Data text at))) s = refl
counted fed (Ok (answers.Mark (marks.Close at))) s = refl
counted fed (Ok (answers.Mark marks.End)) s = let e : fed.given + 0 ≡ fed.given = omega arith in ap (λ (n : ℕ). record fed { given = n }) e
counted fed (Ok answers.NotYet) s = absurd s
counted fed (Err (errors.Fault fault)) s = refl
counted fed (Err errors.NoMemory) s = refl

-- ---- lists behind marks

pub told_append : (xs ys : List Mark) → told (xs ++ ys) ≡ told xs ++ told ys
told_append [] ys = refl
told_append (marks.Open name attrs at ∷ xs) ys = ap (λ (es : List Event). with_event (marks.Open name attrs at) es) (told_append xs ys)
told_append (marks.Data text at ∷ xs) ys = ap (λ (es : List Event). with_event (marks.Data text at) es) (told_append xs ys)
told_append (marks.Close at ∷ xs) ys = ap (λ (es : List Event). with_event (marks.Close at) es) (told_append xs ys)
told_append (marks.End ∷ xs) ys = told_append xs ys

pub listed_append : (meta : MetaDesc) (outside : Externs) (l : Listing) (es fs : List Event) → listed meta outside l (es ++ fs) ≡ listed meta outside (listed meta outside l es) fs
listed_append meta outside l [] fs = refl
listed_append meta outside l (e ∷ es) fs = listed_append meta outside (behind meta outside l e) es fs

-- ---- the next mark

abbrev More : Result (Option Mark) TextFault → Mark → Type 0
More (Ok (Some m)) mark = m ≡ mark
More (Ok None) mark = ⊥
More (Err fault) mark = ⊥

pub next_some : (fault : Option TextFault) (ms : List Mark) (mark : Mark) → next_by fault ms ≡ Ok (Some mark) → (rest : List Mark) × (ms ≡ mark ∷ rest)
next_some fault ms mark e = by fault ms (subst (λ (r : Result (Option Mark) TextFault). More r mark) (sym e) refl)
  where
    by : (fault : Option TextFault) (ms : List Mark) → More (next_by fault ms) mark → (rest : List Mark) × (ms ≡ mark ∷ rest)
    by None [] h = absurd h
    by (Some f) [] h = absurd h
    by None (m ∷ ms) h = (ms, ap (λ (x : Mark). x ∷ ms) h)
    by (Some f) (m ∷ ms) h = (ms, ap (λ (x : Mark). x ∷ ms) h)

abbrev Over : Result (Option Mark) TextFault → Type 0
Over (Ok (Some m)) = ⊥
Over (Ok None) = Unit {0}
Over (Err fault) = ⊥

pub next_none : (fault : Option TextFault) (ms : List Mark) → next_by fault ms ≡ Ok None → (fault ≡ None) × (ms ≡ [])
next_none fault ms e = by fault ms (subst Over (sym e) tt)
  where
    by : (fault : Option TextFault) (ms : List Mark) → Over (next_by fault ms) → (fault ≡ None) × (ms ≡ [])
    by None [] h = (refl, refl)
    by (Some f) [] h = absurd h
    by None (m ∷ ms) h = absurd h
    by (Some f) (m ∷ ms) h = absurd h

abbrev Faulty : Result (Option Mark) TextFault → TextFault → Type 0
Faulty (Ok next) fault = ⊥
Faulty (Err f) fault = f ≡ fault

pub next_err : (end : Option TextFault) (ms : List Mark) (fault : TextFault) → next_by end ms ≡ Err fault → end ≡ Some fault
next_err end ms fault e = by end ms (subst (λ (r : Result (Option Mark) TextFault). Faulty r fault) (sym e) refl)
  where
    by : (end : Option TextFault) (ms : List Mark) → Faulty (next_by end ms) fault → end ≡ Some fault
    by None [] h = absurd h
    by (Some f) [] h = ap Some h
    by None (m ∷ ms) h = absurd h
    by (Some f) (m ∷ ms) h = absurd h

take_next : {X : Type 0} (xs : List X) (n : ℕ) (x : X) (rest : List X) → drop n xs ≡ x ∷ rest → take (suc n) xs ≡ take n xs ++ x ∷ []
take_next [] zero x rest e = absurd (omega (arith, ap length e))
take_next [] (suc n) x rest e = absurd (omega (arith, ap length e))
take_next (y ∷ ys) zero x rest e = ap (λ z. z ∷ []) (ap (λ l. get_or l 0 x) e)
take_next (y ∷ ys) (suc n) x rest e = ap (λ l. y ∷ l) (take_next ys n x rest e)

pub given_within : {X : Type 0} (xs : List X) (n : ℕ) (x : X) (rest : List X) → drop n xs ≡ x ∷ rest → suc n ≤ length xs
given_within [] zero x rest e = absurd (omega (arith, ap length e))
given_within [] (suc n) x rest e = absurd (omega (arith, ap length e))
given_within (y ∷ ys) zero x rest e = omega arith
given_within (y ∷ ys) (suc n) x rest e = omega (arith, given_within ys n x rest e)

pub listed_next : (meta : MetaDesc) (outside : Externs) (ms : List Mark) (n : ℕ) (mark : Mark) (rest : List Mark) → drop n ms ≡ mark ∷ rest
    → listed meta outside nothing (told (take (suc n) ms)) ≡ listed meta outside (listed meta outside nothing (told (take n ms))) (told (mark ∷ []))
listed_next meta outside ms n mark rest e =
    ap (λ (xs : List Mark). listed meta outside nothing (told xs)) (take_next ms n mark rest e)
    ∙ ap (listed meta outside nothing) (told_append (take n ms) (mark ∷ []))
    ∙ listed_append meta outside nothing (told (take n ms)) (told (mark ∷ []))

pub listed_end : (meta : MetaDesc) (outside : Externs) (ms : List Mark) (n : ℕ) → drop n ms ≡ []
    → listed meta outside nothing (told (take n ms)) ≡ listed meta outside nothing (told ms)
listed_end meta outside ms n e =
    ap (λ (xs : List Mark). listed meta outside nothing (told xs))
    (sym (append-nil (take n ms)) ∙ ap (λ (xs : List Mark). take n ms ++ xs) (sym e) ∙ take-append-drop n ms)
