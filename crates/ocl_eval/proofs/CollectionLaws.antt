-- The last element by its place.
use Rattle.std.proofs.Common.{◌≡◌, ◌-◌, List, [], ◌∷◌, length, refl, sym, ◌∙◌, ap, arith}
use Rattle.std.specs.Prelude.{None, Some, slice_get}
use Rattle.std.specs.List.{last_or}
use Rattle.qvtr_semantics.specs.declared.datum.Datum.{Datum}

last_behind : (d : Datum) (ds : List Datum) → last_or (Some d) ds ≡ slice_get (d ∷ ds) (length ds)
last_behind d [] = refl
last_behind d (e ∷ es) = last_behind e es

pub last_by_place : (ds : List Datum) → slice_get ds (length ds - 1) ≡ last_or None ds
last_by_place [] = refl
last_by_place (d ∷ ds) = let place : length (d ∷ ds) - 1 ≡ length ds = omega arith in ap (slice_get (d ∷ ds)) place ∙ sym (last_behind d ds)
