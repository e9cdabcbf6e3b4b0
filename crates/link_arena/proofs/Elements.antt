-- A list has its first element, and those of its rest.
use Rattle.std.proofs.Common.{ℕ, ◌<◌, List, ◌∷◌, length, refl, arith, suc}
use Rattle.std.specs.Prelude.{Contains}

pub Contains-later : (y : ℕ) (ys : List ℕ) (x : ℕ) → Contains ys x → Contains (y ∷ ys) x
Contains-later y ys x has = let h : suc has.0 < suc (length ys) = (let h' : has.0 < length ys = has.1 in omega arith) in (suc has.0, h, has.2)

pub Contains-first : (y : ℕ) (ys : List ℕ) → Contains (y ∷ ys) y
Contains-first y ys = let h : 0 < suc (length ys) = omega arith in (0, h, refl)
