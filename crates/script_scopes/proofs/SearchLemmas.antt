-- Steps of searches through names.
use Rattle.std.proofs.Common.{◌≡◌, ℕ, ◌+◌, ◌<◌, ◌≤◌, List, true, false, ◌||◌, sym, ◌∙◌, ap, subst, length, get_or, take, arith, ⊎_elim}
use Rattle.std.specs.Prelude.{All, None, Some, slice_get}
use Rattle.std.specs.Set.{is_member}
use Rattle.std.proofs.lemmas.Option.{slice_get_cases, slice_get_within, get_or_from_slice_get}
use Rattle.std.proofs.lemmas.List.{take_all, get_or-take, length-take}
use Rattle.std.proofs.lemmas.List.Elements.{All-more}
use Rattle.std.proofs.lemmas.List.Folds.{list_any_at, list_any_more}
use Rattle.mof_metamodel.specs.Characters.{same_name}

module _ {X : Type 0} (xs : List X) (k : ℕ) where
  pub past_end : slice_get xs k ≡ None → length xs ≤ k
  past_end e = ⊎_elim (λ h. absurd cc) (λ h. h.0) (slice_get_cases xs k).1

  -- one more that meets it
  pub all_more : (P : X → Type 0) (x : X) → slice_get xs k ≡ Some x → All P (take k xs) → P x → All P (take (k + 1) xs)
  all_more P x e h p = All-more P xs k x (slice_get_within xs k x e) h (subst P (sym (get_or_from_slice_get xs k x x e)) p)

  -- no more
  pub all_met : (P : X → Type 0) → slice_get xs k ≡ None → All P (take k xs) → All P xs
  all_met P e h = subst (All P) (take_all k xs (past_end e)) h

module _ (xs : List (List ℕ)) (k : ℕ) (q : List ℕ) where
  -- the name stands among the first ones
  pub member_at : (n : ℕ) (x : List ℕ) → slice_get xs k ≡ Some x → k < n → same_name q x ≡ true → is_member same_name (take n xs) q ≡ true
  member_at n x e below s =
      let within = slice_get_within xs k x e in
      list_any_at (same_name q) (take n xs) k x (omega (arith, length-take n xs))
      (ap (same_name q) (get_or-take n xs k x below ∙ get_or_from_slice_get xs k x x e) ∙ s)

  -- all were looked at
  pub member_none : (n : ℕ) → slice_get xs k ≡ None → k < n → is_member same_name (take k xs) q ≡ false → is_member same_name (take n xs) q ≡ false
  member_none n e below h =
      let past = past_end xs k e in
      ap (λ ys. is_member same_name ys q) (take_all n xs (omega arith) ∙ sym (take_all k xs past)) ∙ h

  -- one more that is another
  pub member_more : (x : List ℕ) → slice_get xs k ≡ Some x → is_member same_name (take k xs) q ≡ false → same_name q x ≡ false → is_member same_name (take (k + 1) xs) q ≡ false
  member_more x e h s =
      list_any_more (same_name q) xs k x (slice_get_within xs k x e)
      ∙ ap (λ b. b || same_name q (get_or xs k x)) h ∙ ap (same_name q) (get_or_from_slice_get xs k x x e) ∙ s
