-- The order of two lists from one place on, by an order of their items.
use Rattle.std.proofs.Common.{◌≡◌, ℕ, zero, suc, ◌<◌, ◌≤◌, List, [], ◌∷◌, length, drop, get_or, refl, sym, ◌∙◌, ap, arith}
use Rattle.std.specs.Ordering.{ordering_then}
use Rattle.std.proofs.lemmas.List.{drop_all}
use Rattle.std.specs.Cmp.Lexicographic.{slice_cmp}
use Rattle.std.specs.declared.cmp.Ordering.{Ordering}
use Rattle.std.specs.declared.cmp.Ordering.TheVariants.{Less, Equal, Greater}

module _ {X : Type 0} (order : X → X → Ordering) where
  from_place : (i : ℕ) (ds es : List X) (d e : X) → i < length ds → i < length es
      → slice_cmp order (drop i ds) (drop i es) ≡ ordering_then (order (get_or ds i d) (get_or es i e)) (slice_cmp order (drop (suc i) ds) (drop (suc i) es))
  from_place i [] es d e l k = absurd (omega (arith, l))
  from_place i (x ∷ xs) [] d e l k = absurd (omega (arith, k))
  from_place zero (x ∷ xs) (y ∷ ys) d e l k = refl
  from_place (suc i) (x ∷ xs) (y ∷ ys) d e l k = from_place i xs ys d e (omega (arith, l)) (omega (arith, k))

  -- the items at a place decide, and else those behind
  pub from_first : (i : ℕ) (ds es : List X) (d e : X) → i < length ds → i < length es → d ≡ get_or ds i d → e ≡ get_or es i e
      → slice_cmp order (drop i ds) (drop i es) ≡ ordering_then (order d e) (slice_cmp order (drop (suc i) ds) (drop (suc i) es))
  from_first i ds es d e l k p q = from_place i ds es d e l k ∙ ap (λ x. ordering_then (order x (get_or es i e)) (slice_cmp order (drop (suc i) ds) (drop (suc i) es))) (sym p)
      ∙ ap (λ x. ordering_then (order d x) (slice_cmp order (drop (suc i) ds) (drop (suc i) es))) (sym q)

  left_longer : (i : ℕ) (ds : List X) → i < length ds → slice_cmp order (drop i ds) [] ≡ Greater
  left_longer i [] l = absurd (omega (arith, l))
  left_longer zero (x ∷ xs) l = refl
  left_longer (suc i) (x ∷ xs) l = left_longer i xs (omega (arith, l))

  right_longer : (i : ℕ) (es : List X) → i < length es → slice_cmp order [] (drop i es) ≡ Less
  right_longer i [] l = absurd (omega (arith, l))
  right_longer zero (y ∷ ys) l = refl
  right_longer (suc i) (y ∷ ys) l = right_longer i ys (omega (arith, l))

  pub past_second : (i : ℕ) (ds es : List X) → i < length ds → length es ≤ i → slice_cmp order (drop i ds) (drop i es) ≡ Greater
  past_second i ds es l k = ap (λ ys. slice_cmp order (drop i ds) ys) (drop_all i es k) ∙ left_longer i ds l

  pub past_first : (i : ℕ) (ds es : List X) → length ds ≤ i → i < length es → slice_cmp order (drop i ds) (drop i es) ≡ Less
  past_first i ds es l k = ap (λ xs. slice_cmp order xs (drop i es)) (drop_all i ds l) ∙ right_longer i es k

  pub past_both : (i : ℕ) (ds es : List X) → length ds ≤ i → length es ≤ i → slice_cmp order (drop i ds) (drop i es) ≡ Equal
  past_both i ds es l k = ap (λ xs. slice_cmp order xs (drop i es)) (drop_all i ds l) ∙ ap (λ ys. slice_cmp order [] ys) (drop_all i es k)
