-- A list in order, with each element of another one and none twice.
use Rattle.std.specs.Prelude.{◌≡◌, List, Contains}
use Rattle.std.specs.List.Sorted.{IsStrictlySortedBy}
use Rattle.std.specs.declared.cmp.Ordering.{Ordering}
use Rattle.std.specs.declared.cmp.Ordering.TheVariants.{Equal}

pub record IsEachOnce {X : Type 0} (order : X → X → Ordering) (xs ys : List X) : Type 0 where
  pub sorted : IsStrictlySortedBy order ys
  pub only : (y : X) → Contains ys y → Contains xs y
  -- for each element one that ties with it
  pub all : (x : X) → Contains xs x → (y : X) × Contains ys y × (order x y ≡ Equal)
