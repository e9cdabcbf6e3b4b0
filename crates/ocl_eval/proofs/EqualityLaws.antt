-- Lists of data that are the same, place for place.
use Rattle.std.proofs.Common.{◌≡◌, ℕ, zero, suc, ◌<◌, ◌≤◌, true, false, List, [], ◌∷◌, length, drop, get_or, refl, sym, ◌∙◌, ap, arith}
use Rattle.std.specs.Prelude.{◌&&◌, ◌≢◌}
use Rattle.std.specs.Cmp.Lexicographic.{pointwise}
use Rattle.std.proofs.lemmas.Bool.{and_right}
use Rattle.std.proofs.lemmas.List.{drop_all}
use Rattle.qvtr_semantics.specs.declared.datum.Datum.{Datum}
use Rattle.qvtr_semantics.specs.Data.{same_datum}

-- from one place on, the data there are the same and so are those behind
from_place : (i : ℕ) (ds es : List Datum) (d e : Datum) → i < length ds → i < length es
    → pointwise same_datum (drop i ds) (drop i es) ≡ same_datum (get_or ds i d) (get_or es i e) && pointwise same_datum (drop (suc i) ds) (drop (suc i) es)
from_place i [] es d e l k = absurd (omega (arith, l))
from_place i (x ∷ xs) [] d e l k = absurd (omega (arith, k))
from_place zero (x ∷ xs) (y ∷ ys) d e l k = refl
from_place (suc i) (x ∷ xs) (y ∷ ys) d e l k = from_place i xs ys d e (omega (arith, l)) (omega (arith, k))

pub same_from : (i : ℕ) (ds es : List Datum) (d e : Datum) → i < length ds → i < length es → d ≡ get_or ds i d → e ≡ get_or es i e
    → pointwise same_datum (drop i ds) (drop i es) ≡ same_datum d e && pointwise same_datum (drop (suc i) ds) (drop (suc i) es)
same_from i ds es d e l k p q = from_place i ds es d e l k ∙ ap (λ x. same_datum x (get_or es i e) && pointwise same_datum (drop (suc i) ds) (drop (suc i) es)) (sym p)
    ∙ ap (λ x. same_datum d x && pointwise same_datum (drop (suc i) ds) (drop (suc i) es)) (sym q)

pub other_length : (ds es : List Datum) → length ds ≢ length es → pointwise same_datum ds es ≡ false
other_length [] [] h = absurd (h refl)
other_length [] (e ∷ es) h = refl
other_length (d ∷ ds) [] h = refl
other_length (d ∷ ds) (e ∷ es) h = and_right (same_datum d e) (pointwise same_datum ds es) (other_length ds es (λ k. h (ap suc k)))

pub same_at_end : (n : ℕ) (ds es : List Datum) → length ds ≤ n → length es ≤ n → pointwise same_datum (drop n ds) (drop n es) ≡ true
same_at_end n ds es l k = ap (λ xs. pointwise same_datum xs (drop n es)) (drop_all n ds l) ∙ ap (λ ys. pointwise same_datum [] ys) (drop_all n es k)
