-- One field of each half, after a write to a half.
use Rattle.std.proofs.Common.{◌≡◌, ℕ, List, [], ◌∷◌, get_or, set, map, refl, ap, zero, suc}
use Rattle.link_arena.specs.declared.half.Half.{Half}

pub map-kept : (f : Half → ℕ) (halves : List Half) (i : ℕ) (d new : Half) → f new ≡ f (get_or halves i d)
    → map f (set halves i new) ≡ map f halves
map-kept f [] i d new same = refl
map-kept f (s ∷ halves) zero d new same = ap (λ (k : ℕ). k ∷ map f halves) same
map-kept f (s ∷ halves) (suc i) d new same = ap (λ (l : List ℕ). f s ∷ l) (map-kept f halves i d new same)
