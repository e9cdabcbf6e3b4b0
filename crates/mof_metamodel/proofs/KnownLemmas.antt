-- A fact for each place of a list.
use Rattle.std.proofs.Common.{◌≡◌, ℕ, ◌+◌, ◌<◌, List, [], ◌∷◌, ◌++◌, sym, subst, arith, length, get_or, inl, inr}
use Rattle.std.proofs.lemmas.Bool.{cases_lt}
use Rattle.std.proofs.lemmas.List.{get_or_append_left, get_or_at}

-- a fact for each place, with one more
pub each_more : {X : Type 0} (P : ℕ → X → Type 0) (xs : List X) (n : ℕ) (x : X) → length xs ≡ n → ((q : ℕ) (d : X) → q < n → P q (get_or xs q d)) → P n x → (q : ℕ) (d : X) → q < n + 1 → P q (get_or (xs ++ x ∷ []) q d)
each_more P xs n x e h here q d l = elim (cases_lt q n) [
  | inl before ↦ (let at = get_or_append_left xs (x ∷ []) d q (omega (arith, e)) in subst (P q) (sym at) (h q d before))
  | inr past ↦ (let same : n ≡ q = omega arith in let at = get_or_at xs x [] d n e in
      subst (λ m. P m (get_or (xs ++ x ∷ []) m d)) same (subst (P n) (sym at) here))
]
