-- What a reader has reached, through a byte, a mark and a piece.
use Rattle.std.proofs.Common.{◌≡◌, ℕ, ◌+◌, ◌*◌, ◌≤◌, ◌<◌, List, [], ◌∷◌, ◌++◌, length, take, drop, get_or, refl, sym, ◌∙◌, ap, append_assoc, append-nil, arith, zero, suc, Bool, true, false, Option, None, Some, Err, subst, zero-add, add-zero, length-append, Ok, Result}
use Rattle.std.proofs.Math.Seq.{take-length}
use Rattle.std.proofs.lemmas.List.{drop-append-le, length-take-le, take-append-drop, take_more}
use Rattle.xmi_text.specs.States.{start, complete, complete_by, cleared, cleared_by}
use Rattle.xmi_text.specs.Automaton.{step}
use Rattle.xmi_text.specs.Automaton.{end_fault, fault}
use Rattle.xmi_text.specs.Reading.{state_from, marks_from, state_of, marks_of, Reached, Fed, Answers, answer, answer_by, after_answer, last_by, or_fault}
use Rattle.xmi_text.specs.declared.error.TextError.{TextError}
use Rattle.xmi_text.specs.declared.error.TextError.TheVariants as errors
use Rattle.xmi_text.specs.declared.error.TextFault.{TextFault}
use Rattle.xmi_text.specs.declared.mark.Mark.TheVariants as marks
use Rattle.xmi_text.specs.declared.mark.Step.{Step}
use Rattle.xmi_text.specs.declared.mark.Step.TheVariants as answers
use Rattle.xmi_text.specs.declared.mark.Mark.{Mark}
use Rattle.xmi_text.specs.declared.state.State.{State}
use Rattle.xmi_text.specs.declared.state.Ready.{Ready}
use Rattle.xmi_text.specs.declared.state.Ready.TheVariants.{Nothing, Data, Open, Empty, Close}

-- stepping over two lists is stepping over one after the other
pub state_from-append : (xs ys : List ℕ) (at : ℕ) (s : State) → state_from at s (xs ++ ys) ≡ state_from (at + length xs) (state_from at s xs) ys
state_from-append [] ys at s = ap (λ n. state_from n s ys) (sym (add-zero at))
state_from-append (x ∷ xs) ys at s =
    let more : at + 1 + length xs ≡ at + length (x ∷ xs) = omega arith in
    state_from-append xs ys (at + 1) (cleared (step s at x))
    ∙ ap (λ n. state_from n (state_from (at + 1) (cleared (step s at x)) xs) ys) more

pub marks_from-append : (xs ys : List ℕ) (at : ℕ) (s : State) → marks_from at s (xs ++ ys) ≡ marks_from at s xs ++ marks_from (at + length xs) (state_from at s xs) ys
marks_from-append [] ys at s = ap (λ n. marks_from n s ys) (sym (add-zero at))
marks_from-append (x ∷ xs) ys at s =
    let more : at + 1 + length xs ≡ at + length (x ∷ xs) = omega arith in
    ap (λ ms. complete (step s at x) ++ ms)
    (marks_from-append xs ys (at + 1) (cleared (step s at x))
    ∙ ap (λ n. marks_from (at + 1) (cleared (step s at x)) xs ++ marks_from n (state_from (at + 1) (cleared (step s at x)) xs) ys) more)
    ∙ sym (append_assoc (complete (step s at x)) _ _)

-- the same from the start
pub state_of-append : (xs ys : List ℕ) → state_of (xs ++ ys) ≡ state_from (length xs) (state_of xs) ys
unfolding state_of
state_of-append xs ys = state_from-append xs ys 0 start ∙ ap (λ n. state_from n (state_from 0 start xs) ys) (zero-add (length xs))

pub marks_of-append : (xs ys : List ℕ) → marks_of (xs ++ ys) ≡ marks_of xs ++ marks_from (length xs) (state_of xs) ys
unfolding state_of marks_of
marks_of-append xs ys = marks_from-append xs ys 0 start ∙ ap (λ n. marks_from 0 start xs ++ marks_from n (state_from 0 start xs) ys) (zero-add (length xs))

-- a byte completes two marks at most
complete_two : (s : State) (r : Ready) → length (complete_by s r) ≤ 2
complete_two s Nothing = omega arith
complete_two s Data = omega arith
complete_two s Open = omega arith
complete_two s Empty = omega arith
complete_two s (Close at) = omega arith

pub length-marks_from : (at : ℕ) (s : State) (bytes : List ℕ) → length (marks_from at s bytes) ≤ 2 * length bytes
length-marks_from at s [] = omega arith
length-marks_from at s (b ∷ bytes) =
    let s' : State = step s at b in
    omega (arith, length-append (complete s') (marks_from (at + 1) (cleared s') bytes), complete_two s' s'.ready, length-marks_from (at + 1) (cleared s') bytes)

pub length-marks_of : (bytes : List ℕ) → length (marks_of bytes) ≤ 2 * length bytes
unfolding marks_of
length-marks_of bytes = length-marks_from 0 start bytes

-- where nothing is complete
cleared_nothing : (s : State) (r : Ready) → r ≡ Nothing → cleared_by s r ≡ s
cleared_nothing s r e = ap (cleared_by s) e

complete_nothing : (s : State) (r : Ready) → r ≡ Nothing → complete_by s r ≡ []
complete_nothing s r e = ap (complete_by s) e

-- nothing was read
pub Reached-none : (s : State) → s ≡ start → Reached [] 0 0 s
unfolding state_of marks_of
Reached-none s e = record {
  within = omega arith;
  counted = omega arith;
  state = ap cleared (sym e);
  marks = ap complete (sym e);
}

-- one more byte
pub Reached-byte : (bytes : List ℕ) (at given b : ℕ) (s t : State) → s.ready ≡ Nothing → at < length bytes → b ≡ get_or bytes at 0 → t ≡ step s at b → Reached bytes at given s → Reached bytes (at + 1) given t
Reached-byte bytes at given b s t none lt e was r =
    let front : List ℕ = take at bytes in
    let many : length front ≡ at = length-take-le at bytes (omega arith) in
    let split : take (at + 1) bytes ≡ front ++ b ∷ [] = take_more bytes at 0 lt ∙ ap (λ x. front ++ x ∷ []) (sym e) in
    let same : state_of front ≡ s = r.state ∙ cleared_nothing s s.ready none in
    let stepped : step (state_of front) (length front) b ≡ t = ap (λ q. step q (length front) b) same ∙ ap (λ n. step s n b) many ∙ sym was in
    let told : marks_of (take (at + 1) bytes) ≡ marks_of front ++ complete t =
    ap marks_of split ∙ marks_of-append front (b ∷ []) ∙ ap (λ ms. marks_of front ++ ms) (append-nil _ ∙ ap complete stepped) in
    record {
      within = omega arith;
      counted = rw told (omega (arith, length-append (marks_of front) (complete t), r.counted));
      state = ap state_of split ∙ state_of-append front (b ∷ []) ∙ ap cleared stepped;
      marks = ap (drop given) told ∙ drop-append-le given (marks_of front) (complete t) r.counted ∙ ap (λ ms. ms ++ complete t) (r.marks ∙ complete_nothing s s.ready none);
    }

pub drop_next : {A : Type 0} (xs : List A) (n : ℕ) (y : A) (ys : List A) → drop n xs ≡ y ∷ ys → (drop (n + 1) xs ≡ ys) × (n + 1 ≤ length xs)
drop_next [] zero y ys e = cc
drop_next [] (suc n) y ys e = cc
drop_next (x ∷ xs) zero y ys e = (ap (drop 1) e, omega arith)
drop_next (x ∷ xs) (suc n) y ys e =
    let p = drop_next xs n y ys e in
    let more : suc n + 1 ≡ suc (n + 1) = omega arith in
    (ap (λ k. drop k (x ∷ xs)) more ∙ p.0, omega (arith, p.1))

-- one more mark
pub Reached-mark : (bytes : List ℕ) (at given : ℕ) (s t : State) (mark : Mark) → complete s ≡ mark ∷ complete t → cleared t ≡ cleared s → Reached bytes at given s → Reached bytes at (given + 1) t
Reached-mark bytes at given s t mark e same r =
    let p = drop_next (marks_of (take at bytes)) given mark (complete t) (r.marks ∙ e) in
    record {
      within = r.within;
      counted = p.1;
      state = r.state ∙ sym same;
      marks = p.0;
    }

-- a complete mark is the next of the text
pub Reached-next : (bytes : List ℕ) (at given : ℕ) (s : State) (mark : Mark) (more : List Mark) → complete s ≡ mark ∷ more → Reached bytes at given s → (rest : List Mark) × (drop given (marks_of bytes) ≡ mark ∷ rest)
Reached-next bytes at given s mark more e r =
    let front : List ℕ = take at bytes in
    let back : List ℕ = drop at bytes in
    let rest : List Mark = marks_from (length front) (state_of front) back in (
      more ++ rest,
      ap (λ xs. drop given (marks_of xs)) (sym (take-append-drop at bytes))
          ∙ ap (drop given) (marks_of-append front back)
          ∙ drop-append-le given (marks_of front) rest r.counted
          ∙ ap (λ ms. ms ++ rest) (r.marks ∙ e),
    )

-- all bytes were stepped over, and nothing is complete
pub record IsThrough (bytes : List ℕ) (given : ℕ) (s : State) : Type 0 where
  pub state : state_of bytes ≡ s
  pub marks : drop given (marks_of bytes) ≡ []

pub Reached-all : (bytes : List ℕ) (at given : ℕ) (s : State) → at ≡ length bytes → s.ready ≡ Nothing → Reached bytes at given s → IsThrough bytes given s
Reached-all bytes at given s e none r =
    let whole : take at bytes ≡ bytes = ap (λ n. take n bytes) e ∙ take-length bytes in
    record {
      state = ap state_of (sym whole) ∙ r.state ∙ cleared_nothing s s.ready none;
      marks = ap (λ xs. drop given (marks_of xs)) (sym whole) ∙ r.marks ∙ complete_nothing s s.ready none;
    }

-- what was reached over a slice was reached over the vector
pub Reached-moved : (bytes items : List ℕ) (at at' given : ℕ) (s t : State) → bytes ≡ items → ((g : ℕ) → Reached bytes at g s → Reached bytes at' g t) → Reached items at given s → Reached items at' given t
Reached-moved bytes items at at' given s t e f r =
    let P : List ℕ → Type 0 = λ xs. Reached xs at given s in
    let Q : List ℕ → Type 0 = λ xs. Reached xs at' given t in
    subst Q e (f given (subst P (sym e) r))

-- few marks were given
pub given_few : (bytes : List ℕ) (at given : ℕ) (s : State) → Reached bytes at given s → given ≤ 2 * at
given_few bytes at given s r = omega (arith, r.counted, length-marks_of (take at bytes), length-take-le at bytes r.within)

-- the answer is the complete mark
pub answered : (fed : Fed) (at : ℕ) (s : State) (mark : Mark) (more : List Mark) → complete s ≡ mark ∷ more → Reached fed.bytes at fed.given s → Ok (answers.Mark mark) ≡ answer fed
unfolding answer
answered fed at s mark more e r = sym (ap (answer_by fed) (Reached-next fed.bytes at fed.given s mark more e r).1)

pub Answers-same : (result expected : Result Step TextError) → result ≡ expected → Answers result expected
Answers-same (Ok step) expected e = e
Answers-same (Err errors.NoMemory) expected e = tt
Answers-same (Err (errors.Fault f)) expected e = e

-- the answer behind the last mark
pub answered_last : (fed : Fed) (at : ℕ) (s : State) (result : Result Step TextError) → at ≡ length fed.bytes → s.ready ≡ Nothing → result ≡ last_by fed.finished s (length fed.bytes) → Reached fed.bytes at fed.given s → Answers result (answer fed)
unfolding answer
answered_last fed at s result e none was r =
    let through = Reached-all fed.bytes at fed.given s e none r in
    Answers-same result (answer fed)
    (was ∙ ap (λ q. last_by fed.finished q (length fed.bytes)) (sym through.state) ∙ sym (ap (answer_by fed) through.marks))

behind_end : (fed : Fed) (o : Option TextFault) → after_answer (or_fault (answers.Mark marks.End) o) fed ≡ fed
behind_end fed None = ap (λ n. record fed { given = n }) (add-zero fed.given)
behind_end fed (Some f) = refl

behind_open : (fed : Fed) (o : Option TextFault) → after_answer (or_fault answers.NotYet o) fed ≡ fed
behind_open fed None = refl
behind_open fed (Some f) = refl

-- which gives no mark
pub behind_last : (fed : Fed) (finished : Bool) (s : State) (n : ℕ) → after_answer (last_by finished s n) fed ≡ fed
behind_last fed true s n = behind_end fed (end_fault s n)
behind_last fed false s n = behind_open fed (fault s)

not_open : (o : Option TextFault) (mark : Mark) → Ok (answers.Mark mark) ≡ or_fault answers.NotYet o → ⊥
not_open None mark e = cc
not_open (Some f) mark e = cc
