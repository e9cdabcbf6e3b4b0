-- The marks that the first bytes of a text complete are those of the text that need no more bytes.
use Rattle.std.proofs.Common.{◌≡◌, ℕ, zero, suc, ◌+◌, ◌≤◌, ◌<◌, Bool, true, false, List, [], ◌∷◌, ◌++◌, length, take, refl, sym, ◌∙◌, ap, ap₂, arith, cond}
use Rattle.std.specs.Prelude.{nat_le, encode_utf8_all}
use Rattle.std.specs.Str.{all_scalars}
use Rattle.std.proofs.Math.Seq.{take-append_seam}
use Rattle.std.proofs.lemmas.Bool.{le-leb, lt-leb}
use Rattle.xmi_text.specs.States.{start, complete, cleared}
use Rattle.xmi_text.specs.Automaton.{step}
use Rattle.xmi_text.specs.Reading.{marks_from, marks_of}
use Rattle.xmi_text.specs.Markup.{Document, IsDocument, document_text, Markup}
use Rattle.xmi_text.specs.Trees.{Tree}
use Rattle.xmi_text.specs.Places.{Timed, marks_only, document_marks, complete_within, complete_marks}
use Rattle.xmi_text.specs.declared.mark.Mark.{Mark}
use Rattle.xmi_text.specs.declared.state.State.{State}
use Rattle.xmi_text.proofs.forward.Walks.{all_by, timed_from, timed_from-only}
use Rattle.xmi_text.proofs.forward.Spelled.{document_timed}

within-append : (n : ℕ) (xs ys : List Timed) → complete_within n (xs ++ ys) ≡ complete_within n xs ++ complete_within n ys
within-append n [] ys = refl
within-append n (x ∷ xs) ys = one (nat_le x.by n) (within-append n xs ys)
  where
    one : (b : Bool) → complete_within n (xs ++ ys) ≡ complete_within n xs ++ complete_within n ys → cond b (x.mark ∷ complete_within n (xs ++ ys)) (complete_within n (xs ++ ys)) ≡ cond b (x.mark ∷ complete_within n xs) (complete_within n xs) ++ complete_within n ys
    one true e = ap (λ (ms : List Mark). x.mark ∷ ms) e
    one false e = e

all_within : (n k : ℕ) (ms : List Mark) → k ≤ n → complete_within n (all_by k ms) ≡ ms
all_within n k [] h = refl
all_within n k (m ∷ ms) h =
    ap (λ (b : Bool). cond b (m ∷ complete_within n (all_by k ms)) (complete_within n (all_by k ms))) (le-leb k n h)
    ∙ ap (λ (xs : List Mark). m ∷ xs) (all_within n k ms h)

none_by : (n k : ℕ) (ms : List Mark) → n < k → complete_within n (all_by k ms) ≡ []
none_by n k [] h = refl
none_by n k (m ∷ ms) h =
    ap (λ (b : Bool). cond b (m ∷ complete_within n (all_by k ms)) (complete_within n (all_by k ms))) (lt-leb k n h)
    ∙ none_by n k ms h

-- no bytes complete no marks
none_within : (n at : ℕ) (s : State) (bytes : List ℕ) → n ≤ at → complete_within n (timed_from at s bytes) ≡ []
none_within n at s [] h = refl
none_within n at s (b ∷ bytes) h =
    within-append n (all_by (at + 1) (complete (step s at b))) (timed_from (at + 1) (cleared (step s at b)) bytes)
    ∙ ap₂ (λ (x y : List Mark). x ++ y) (none_by n (at + 1) (complete (step s at b)) (omega (arith, h))) (none_within n (at + 1) (cleared (step s at b)) bytes (omega (arith, h)))

pub within_from : (n at : ℕ) (s : State) (bytes : List ℕ) → marks_from at s (take n bytes) ≡ complete_within (at + n) (timed_from at s bytes)
within_from zero at s bytes = sym (none_within (at + 0) at s bytes (omega arith))
within_from (suc n) at s [] = refl
within_from (suc n) at s (b ∷ bytes) =
    let m : ℕ = at + suc n in
    let t : State = cleared (step s at b) in
    let later : at + 1 + n ≡ m = omega arith in
    ap₂ (λ (x y : List Mark). x ++ y) (sym (all_within m (at + 1) (complete (step s at b)) (omega arith)))
    (within_from n (at + 1) t bytes ∙ ap (λ (k : ℕ). complete_within k (timed_from (at + 1) t bytes)) later)
    ∙ sym (within-append m (all_by (at + 1) (complete (step s at b))) (timed_from (at + 1) t bytes))

-- ---- of a document

pub marks_read : (d : Document) → IsDocument d → all_scalars (document_text d) ≡ true → marks_of (encode_utf8_all (document_text d)) ≡ document_marks d
unfolding marks_of
marks_read d i ok =
    let bytes : List ℕ = encode_utf8_all (document_text d) in
    sym (timed_from-only 0 start bytes) ∙ ap marks_only (document_timed d i ok)

pub first_marks_read : (d : Document) (n : ℕ) → IsDocument d → all_scalars (document_text d) ≡ true → marks_of (take n (encode_utf8_all (document_text d))) ≡ complete_marks d n
unfolding marks_of
first_marks_read d n i ok =
    let bytes : List ℕ = encode_utf8_all (document_text d) in
    within_from n 0 start bytes
    ∙ ap (λ (k : ℕ). complete_within k (timed_from 0 start bytes)) (omega arith)
    ∙ ap (complete_within n) (document_timed d i ok)

pub beginning_read : (bytes more : List ℕ) (tree : Tree) (m : Markup (bytes ++ more) tree) → marks_of bytes ≡ complete_marks m.document (length bytes)
beginning_read bytes more tree m =
    ap marks_of (sym (take-append_seam bytes more) ∙ ap (take (length bytes)) m.written) ∙ first_marks_read m.document (length bytes) m.whole m.scalars
