-- Values of numbered places that wait for one another: all of them anew in each of some rounds, or one after another, in an order in which
-- what a value waits for comes first. Both come to the same.
use Rattle.std.specs.Prelude.{◌≡◌, ◌⊎◌, ◌<◌, ℕ, List, [], ◌∷◌, length, slice_index_or, slice_set, Contains}

-- the value at a place
abbrev pub at : {Y : Type 0} → Y → List Y → ℕ → Y
at none x v = slice_index_or x v none

-- the values after these places, one after another, got theirs by what is there
abbrev pub passed : {Y : Type 0} → (ℕ → List Y → Y) → List Y → List ℕ → List Y
passed next x [] = x
passed next x (v ∷ vs) = passed next (slice_set x v (next v x)) vs

-- whatever is there, the place gets the value that it has before
abbrev pub IsStill : {Y : Type 0} → Y → (ℕ → List Y → Y) → List Y → ℕ → Type 0
IsStill {Y} none next before v = (x : List Y) → next v x ≡ at none before v

-- each of these places is one of the first so many, and what it waits for is done before, or needs nothing
abbrev pub AreSteps : (ℕ → Type 0) → (ℕ → ℕ → Type 0) → ℕ → List ℕ → List ℕ → Type 0
AreSteps IsIdle WaitsFor count done [] = Unit {0}
AreSteps IsIdle WaitsFor count done (v ∷ vs) =
    (v < count) × ((w : ℕ) → w < count → WaitsFor v w → Contains done w ⊎ IsIdle w) × AreSteps IsIdle WaitsFor count (v ∷ done) vs
