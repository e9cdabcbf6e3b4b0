-- One map after another.
use Rattle.std.proofs.Common.{◌≡◌, List, [], ◌∷◌, map, refl, ap, arith}
use Rattle.std.specs.Prelude.{Contains}
use Rattle.object_tables.proofs.ListLemmas.{Contains-cons}

pub map-map : {X Y Z : Type 0} (f : X → Y) (g : Y → Z) (xs : List X) → map g (map f xs) ≡ map (λ x. g (f x)) xs
map-map f g [] = refl
map-map f g (x ∷ xs) = ap (λ ys. g (f x) ∷ ys) (map-map f g xs)

-- there and back
pub map-back : {X Y : Type 0} (f : X → Y) (g : Y → X) (xs : List X) → ((x : X) → Contains xs x → g (f x) ≡ x) → map g (map f xs) ≡ xs
map-back f g [] h = refl
map-back f g (x ∷ xs) h =
    let a : g (f x) ≡ x = h x (0, omega arith, refl) in
    let b : map g (map f xs) ≡ xs = map-back f g xs (λ y c. h y (Contains-cons x xs y c)) in cc
