-- An edit of one element of a list.
use Rattle.std.specs.Prelude.{ℕ, List, [], ◌∷◌}
use Prim.Native.Nat.{zero, suc}

-- the list with the element at a place changed; past the end it is the list
abbrev pub update_at : {X : Type 0} → List X → ℕ → (X → X) → List X
update_at [] n f = []
update_at (x ∷ xs) zero f = f x ∷ xs
update_at (x ∷ xs) (suc n) f = x ∷ update_at xs n f
