-- The first place at which an item passes.
use Rattle.std.proofs.Common.{◌≡◌, inl, inr, ℕ, zero, suc, ◌+◌, Bool, true, false, List, [], ◌∷◌, ◌++◌, length, refl, sym, ◌∙◌, ap, arith, cond, None, Some}
use Rattle.std.specs.Prelude.{nat_lt, not, slice_get, position, Option}
use Rattle.std.specs.List.{position_or_len}
use Rattle.std.specs.Option.{option_map, option_or, unwrap_or}
use Rattle.std.proofs.lemmas.Bool.{true≢false, lt-ltb, le-ltb, cases_lt, cond-true, cond-false}
use Rattle.std.proofs.lemmas.Option.{none-some}

abbrev pub first_place : {X : Type 0} → (X → Bool) → List X → Option ℕ
first_place p [] = None
first_place p (x ∷ xs) = cond (p x) (Some 0) (option_map suc (first_place p xs))

one_behind : (n : ℕ) → 1 + n ≡ suc n
one_behind n = omega arith

place_or_none : (k n : ℕ) → cond (nat_lt (1 + k) (suc n)) (Some (1 + k)) None ≡ option_map suc (cond (nat_lt k n) (Some k) None)
place_or_none k n = elim (cases_lt k n) [
  | inl l ↦
      cond-true (nat_lt (1 + k) (suc n)) (Some (1 + k)) None (lt-ltb (1 + k) (suc n) (omega (arith, l)))
      ∙ ap (λ (j : ℕ). Some j) (one_behind k)
      ∙ sym (ap (option_map suc) (cond-true (nat_lt k n) (Some k) None (lt-ltb k n l)))
  | inr l ↦
      cond-false (nat_lt (1 + k) (suc n)) (Some (1 + k)) None (le-ltb (1 + k) (suc n) (omega (arith, l)))
      ∙ sym (ap (option_map suc) (cond-false (nat_lt k n) (Some k) None (le-ltb k n l)))
]

pub position_is : {X : Type 0} (p : X → Bool) (xs : List X) → position p xs ≡ first_place p xs
position_is p [] = refl
position_is p (x ∷ xs) = by (p x) (position_is p xs)
  where
    by : (b : Bool) → position p xs ≡ first_place p xs
        → cond (nat_lt (cond (not b) (1 + position_or_len p xs) 0) (suc (length xs))) (Some (cond (not b) (1 + position_or_len p xs) 0)) None ≡ cond b (Some 0) (option_map suc (first_place p xs))
    by true h = cond-true (nat_lt 0 (suc (length xs))) (Some 0) None (lt-ltb 0 (suc (length xs)) (omega arith))
    by false h = place_or_none (position_or_len p xs) (length xs) ∙ ap (option_map suc) h

one_more : (o p : Option ℕ) → option_map suc (option_or o p) ≡ option_or (option_map suc o) (option_map suc p)
one_more None p = refl
one_more (Some x) p = refl

pub first_push : {X : Type 0} (p : X → Bool) (xs : List X) (y : X) → first_place p (xs ++ y ∷ []) ≡ option_or (first_place p xs) (cond (p y) (Some (length xs)) None)
first_push p [] y = refl
first_push p (x ∷ xs) y = by (p x) (first_push p xs y)
  where
    last : (b : Bool) → option_map suc (cond b (Some (length xs)) None) ≡ cond b (Some (suc (length xs))) None
    last true = refl
    last false = refl

    by : (b : Bool) → first_place p (xs ++ y ∷ []) ≡ option_or (first_place p xs) (cond (p y) (Some (length xs)) None)
        → cond b (Some 0) (option_map suc (first_place p (xs ++ y ∷ []))) ≡ option_or (cond b (Some 0) (option_map suc (first_place p xs))) (cond (p y) (Some (suc (length xs))) None)
    by true h = refl
    by false h =
        ap (option_map suc) h ∙ one_more (first_place p xs) (cond (p y) (Some (length xs)) None)
        ∙ ap (option_or (option_map suc (first_place p xs))) (last (p y))

pub position_push : {X : Type 0} (p : X → Bool) (xs : List X) (y : X) → position p (xs ++ y ∷ []) ≡ option_or (position p xs) (cond (p y) (Some (length xs)) None)
position_push p xs y =
    position_is p (xs ++ y ∷ []) ∙ first_push p xs y ∙ ap (λ (o : Option ℕ). option_or o (cond (p y) (Some (length xs)) None)) (sym (position_is p xs))

pub first_passes : {X : Type 0} (p : X → Bool) (xs : List X) (i : ℕ) → first_place p xs ≡ Some i → (x : X) × (slice_get xs i ≡ Some x) × (p x ≡ true)
first_passes p [] i e = absurd (none-some i e)
first_passes {X = X} p (x ∷ xs) i e = by (p x) refl e (first_passes p xs)
  where
    by : (b : Bool) → p x ≡ b → cond b (Some 0) (option_map suc (first_place p xs)) ≡ Some i
        → ((k : ℕ) → first_place p xs ≡ Some k → (y : X) × (slice_get xs k ≡ Some y) × (p y ≡ true)) → (y : X) × (slice_get (x ∷ xs) i ≡ Some y) × (p y ≡ true)
    by true h f more = (x, ap (slice_get (x ∷ xs)) (sym (ap (λ (o : Option ℕ). unwrap_or o i) f)), h)
    by false h f more = later (first_place p xs) refl f
      where
        later : (o : Option ℕ) → first_place p xs ≡ o → option_map suc o ≡ Some i → (y : X) × (slice_get (x ∷ xs) i ≡ Some y) × (p y ≡ true)
        later None g f = absurd (none-some i f)
        later (Some k) g f =
            let r = more k g in
            (r.0, ap (slice_get (x ∷ xs)) (sym (ap (λ (o : Option ℕ). unwrap_or o i) f)) ∙ r.1, r.2)

pub none_passes : {X : Type 0} (p : X → Bool) (xs : List X) (i : ℕ) (x : X) → first_place p xs ≡ None → slice_get xs i ≡ Some x → p x ≡ true → ⊥
none_passes p [] i x e g t = none-some x g
none_passes {X = X} p (y ∷ ys) i x e g t = by (p y) refl e (none_passes p ys) i g
  where
    by : (b : Bool) → p y ≡ b → cond b (Some 0) (option_map suc (first_place p ys)) ≡ None
        → ((k : ℕ) (z : X) → first_place p ys ≡ None → slice_get ys k ≡ Some z → p z ≡ true → ⊥) → (k : ℕ) → slice_get (y ∷ ys) k ≡ Some x → ⊥
    by true h f more k g = none-some 0 (sym f)
    by false h f more zero g = true≢false (sym t ∙ ap p (sym (ap (λ o. unwrap_or o x) g)) ∙ h)
    by false h f more (suc k) g = later (first_place p ys) refl f
      where
        later : (o : Option ℕ) → first_place p ys ≡ o → option_map suc o ≡ None → ⊥
        later None q f = more k x q g t
        later (Some j) q f = none-some (suc j) (sym f)
