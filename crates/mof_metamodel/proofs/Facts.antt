-- Facts on lists and Booleans that several crates cite and the standard library doesn't state.
use Rattle.std.specs.Prelude.{◌≡◌, ℕ, zero, suc, Bool, true, false, ◌&&◌, ◌||◌, List, [], ◌∷◌, map, Some, slice_get, Contains}
use Rattle.std.proofs.Common.{refl, ap, arith}
use Rattle.std.proofs.lemmas.Bool.{and_parts}
use Rattle.std.proofs.lemmas.Option.{slice_get_within, get_or_from_slice_get}

-- where both hold, the first does
pub first_true : (a b : Bool) → (a && b) ≡ true → a ≡ true
first_true a b both = (and_parts a b both).0

-- where both hold, the second does
pub second_true : (a b : Bool) → (a && b) ≡ true → b ≡ true
second_true a b both = (and_parts a b both).1

-- `or` with false changes nothing
pub or_false : (a : Bool) → (a || false) ≡ a
or_false true = refl
or_false false = refl

-- nothing is in the empty list
pub nothing_in : {X : Type 0} (x : X) → Contains [] x → ⊥
nothing_in x c = let (k, within, is) = c in absurd (omega arith)

-- the first element is in the list
pub contains_first : {X : Type 0} (x : X) (xs : List X) → Contains (x ∷ xs) x
contains_first x xs = (0, omega arith, refl)

-- what is in a list of one is that one
pub only_one : {X : Type 0} (x y : X) → Contains (x ∷ []) y → x ≡ y
only_one x y (zero, within, is) = is
only_one x y (suc k, within, is) = absurd (omega (arith, within))

-- what stands at a place is in the list
pub contains_at : {X : Type 0} (xs : List X) (k : ℕ) (x : X) → slice_get xs k ≡ Some x → Contains xs x
contains_at xs k x is = (k, slice_get_within xs k x is, get_or_from_slice_get xs k x x is)

-- the image of what is in a list is in the list of images
pub contains_map : {X Y : Type 0} (f : X → Y) (xs : List X) (x : X) → Contains xs x → Contains (map f xs) (f x)
contains_map f [] x (k, within, is) = absurd (omega (arith, within))
contains_map f (y ∷ ys) x (zero, within, is) = (zero, omega arith, ap f is)
contains_map f (y ∷ ys) x (suc k, within, is) = let (j, below, same) = contains_map f ys x (k, omega (arith, within), is) in (suc j, omega (arith, below), same)
