-- Elements of lists, one after another.
use Rattle.std.specs.Prelude.{◌≡◌, ◌<◌, ◌≤◌, ◌⊎◌, ℕ, zero, suc, List, [], ◌∷◌, ◌++◌, map, length, take, drop, min, get_or, Contains}
use Rattle.std.proofs.Common.{refl, sym, ap, ◌∙◌, arith, inl, inr}
use Rattle.std.proofs.Math.Nat.{le-min}
use Rattle.std.proofs.Math.Seq.{take-suc}
use Rattle.std.proofs.lemmas.Bool.Decides.{leb_tells}
use Rattle.std.proofs.lemmas.List.Elements.{Contains-append_cases}
use Rattle.mof_metamodel.proofs.Facts.{only_one}

-- an element of a list with one more at its end
pub before_or_last : {X : Type 0} (xs : List X) (x y : X) → Contains (xs ++ x ∷ []) y → Contains xs y ⊎ (x ≡ y)
before_or_last xs x y c = elim (Contains-append_cases xs (x ∷ []) y c) [
  | inl before ↦ inl before
  | inr last ↦ inr (only_one x y last)
]

map_append : {X Y : Type 0} (f : X → Y) (xs ys : List X) → map f (xs ++ ys) ≡ map f xs ++ map f ys
map_append f [] ys = refl
map_append f (x ∷ xs) ys = ap (λ zs. f x ∷ zs) (map_append f xs ys)

-- a loop that has come one element further
pub one_more : {X Y : Type 0} (f : X → Y) (xs : List X) (i j : ℕ) (x : X) → j ≡ suc i → i < length xs → x ≡ get_or xs i x → map f (take j xs) ≡ map f (take i xs) ++ f x ∷ []
one_more f xs i j x next within is =
    ap (λ k. map f (take k xs)) next ∙ ap (map f) (take-suc xs i x within) ∙ map_append f (take i xs) (get_or xs i x ∷ []) ∙ ap (λ y. map f (take i xs) ++ f y ∷ []) (sym is)

-- a loop that has come to the end
pub all_taken : {X : Type 0} (xs : List X) (i : ℕ) → length xs ≤ i → take i xs ≡ xs
all_taken [] zero past = refl
all_taken [] (suc i) past = refl
all_taken (x ∷ xs) zero past = absurd (omega (arith, past))
all_taken (x ∷ xs) (suc i) past = ap (λ ys. x ∷ ys) (all_taken xs i (omega (arith, past)))

pub item_of : {X : Type 0} (xs : List X) (i : ℕ) (x : X) → i < length xs → x ≡ get_or xs i x → Contains xs x
item_of xs i x within is = (i, within, sym is)

past_all : {X : Type 0} (xs : List X) (i : ℕ) → length xs ≤ i → drop i xs ≡ []
past_all [] zero past = refl
past_all [] (suc i) past = refl
past_all (x ∷ xs) zero past = absurd (omega (arith, past))
past_all (x ∷ xs) (suc i) past = past_all xs i (omega (arith, past))

-- a loop over two lists that has come to the end of the shorter one
pub both_ended : {A X Y : Type 0} (f : A → List X → List Y → A) (a : A) → ((ys : List Y) → f a [] ys ≡ a) → ((xs : List X) → f a xs [] ≡ a) → (xs : List X) (ys : List Y) (i : ℕ)
    → min (length xs) (length ys) ≤ i → f a (drop i xs) (drop i ys) ≡ a
both_ended f a first second xs ys i past = elim (leb_tells (length xs) (length ys)) [
  | inl shorter ↦ let least : length xs ≤ min (length xs) (length ys) = le-min (omega arith) shorter.1 in
      ap (λ zs. f a zs (drop i ys)) (past_all xs i (omega (arith, least, past))) ∙ first (drop i ys)
  | inr longer ↦ let least : length ys ≤ min (length xs) (length ys) = le-min (omega (arith, longer.1)) (omega arith) in
      ap (f a (drop i xs)) (past_all ys i (omega (arith, least, past))) ∙ second (drop i xs)
]
