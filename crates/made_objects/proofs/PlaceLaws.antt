-- The first place in a list at which a test passes.
use Rattle.std.specs.Prelude.{◌≡◌, ◌+◌, nat_lt, ℕ, Bool, true, false, not, cond, List, [], ◌∷◌, ◌++◌, map, length, Option, None, Some, Contains, position}
use Rattle.std.specs.List.{position_or_len}
use Rattle.std.specs.Option.{option_map}
use Rattle.std.proofs.Common.{refl, ap, sym, ◌∙◌, arith, inl, inr, add-one}
use Rattle.std.proofs.lemmas.Bool.{cases_lt, le-ltb, lt-ltb}
use Rattle.mof_metamodel.proofs.Facts.{contains_first}
use Rattle.template_match.proofs.ListLaws.{contains_later}

module _ {X : Type 0} (p : X → Bool) where
  pub position_first : (x : X) (xs : List X) → position p (x ∷ xs) ≡ cond (p x) (Some 0) (option_map (λ i. i + 1) (position p xs))
  position_first x xs = by (p x)
    where
      by : (b : Bool)
          → cond (nat_lt (cond (not b) (1 + position_or_len p xs) 0) (length (x ∷ xs))) (Some (cond (not b) (1 + position_or_len p xs) 0)) None
          ≡ cond b (Some 0) (option_map (λ i. i + 1) (position p xs))
      by true = ap (λ c. cond c (Some 0) None) (lt-ltb 0 (length (x ∷ xs)) (omega arith))
      by false = elim (cases_lt (position_or_len p xs) (length xs)) [
        | inl less ↦ (
            let behind : 1 + position_or_len p xs ≡ position_or_len p xs + 1 = omega arith in
            ap (λ c. cond c (Some (1 + position_or_len p xs)) None) (lt-ltb (1 + position_or_len p xs) (length (x ∷ xs)) (omega (arith, less)))
            ∙ ap (λ i. Some i) behind
            ∙ sym (ap (λ c. option_map (λ i. i + 1) (cond c (Some (position_or_len p xs)) None)) (lt-ltb (position_or_len p xs) (length xs) less)))
        | inr more ↦ (
            ap (λ c. cond c (Some (1 + position_or_len p xs)) None) (le-ltb (1 + position_or_len p xs) (length (x ∷ xs)) (omega (arith, more)))
            ∙ sym (ap (λ c. option_map (λ i. i + 1) (cond c (Some (position_or_len p xs)) None)) (le-ltb (position_or_len p xs) (length xs) more)))
      ]

  -- none passes
  pub no_position : (xs : List X) → ((x : X) → Contains xs x → p x ≡ false) → position p xs ≡ None
  no_position [] h = refl
  no_position (x ∷ xs) h =
      position_first x xs
      ∙ ap (λ b. cond b (Some 0) (option_map (λ i. i + 1) (position p xs))) (h x (contains_first x xs))
      ∙ ap (option_map (λ i. i + 1)) (no_position xs (λ y c. h y (contains_later y x xs c)))

  -- the place, or one behind it
  abbrev pub or_last : Option ℕ → Bool → ℕ → Option ℕ
  or_last (Some i) b n = Some i
  or_last None b n = cond b (Some n) None

  pub position_push : (xs : List X) (y : X) → position p (xs ++ y ∷ []) ≡ or_last (position p xs) (p y) (length xs)
  position_push [] y = position_first y []
  position_push (x ∷ xs) y =
      position_first x (xs ++ y ∷ [])
      ∙ ap (λ o. cond (p x) (Some 0) (option_map (λ i. i + 1) o)) (position_push xs y)
      ∙ step (p x) (position p xs) (p y)
      ∙ sym (ap (λ o. or_last o (p y) (length (x ∷ xs))) (position_first x xs))
    where
      step : (b : Bool) (o : Option ℕ) (c : Bool) → cond b (Some 0) (option_map (λ i. i + 1) (or_last o c (length xs)))
          ≡ or_last (cond b (Some 0) (option_map (λ i. i + 1) o)) c (length (x ∷ xs))
      step true o c = refl
      step false (Some i) c = refl
      step false None true = ap (λ n. Some n) (add-one (length xs))
      step false None false = refl

-- tests that agree
pub position_map : {X Y : Type 0} (p : X → Bool) (q : Y → Bool) (f : X → Y) (xs : List X) → ((x : X) → Contains xs x → q (f x) ≡ p x)
    → position q (map f xs) ≡ position p xs
position_map p q f [] same = refl
position_map p q f (x ∷ xs) same =
    position_first q (f x) (map f xs)
    ∙ ap (λ b. cond b (Some 0) (option_map (λ i. i + 1) (position q (map f xs)))) (same x (contains_first x xs))
    ∙ ap (λ o. cond (p x) (Some 0) (option_map (λ i. i + 1) o)) (position_map p q f xs (λ y c. same y (contains_later y x xs c)))
    ∙ sym (position_first p x xs)
