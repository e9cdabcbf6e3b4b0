-- Lists that are threaded through a table: from a start each number's step leads to the next.
use Rattle.std.specs.Prelude.{◌≡◌, ◌≢◌, ℕ, zero, suc, List, [], ◌∷◌, ◌<◌, length, ◌==◌, cond, reverse, slice_index, slice_set, Contains, AllPairs}

-- the numbers that the steps lead to from a start on, as many as are asked for
abbrev pub walk : List ℕ → ℕ → ℕ → List ℕ
walk step zero at = []
walk step (suc n) at = at ∷ walk step n (slice_index step at)

-- from a start the steps lead through a list
abbrev pub LeadsThrough : List ℕ → ℕ → List ℕ → Type 0
LeadsThrough step at [] = Unit {0}
LeadsThrough step at (x ∷ xs) = (at ≡ x) × LeadsThrough step (slice_index step x) xs

-- a number is taken out: the start, and the steps, that pass it
abbrev pub start_past : List ℕ → ℕ → ℕ → ℕ
start_past step start at = cond (start == at) (slice_index step at) start

abbrev pub step_past : List ℕ → ℕ → ℕ → ℕ → List ℕ
step_past step start before at = cond (start == at) step (slice_set step before (slice_index step at))

abbrev pub last_or : ℕ → List ℕ → ℕ
last_or d [] = d
last_or d (x ∷ xs) = last_or x xs

abbrev pub first_or : ℕ → List ℕ → ℕ
first_or d [] = d
first_or d (x ∷ xs) = x

-- a number is put last in a list of a known length
abbrev pub start_onto : ℕ → ℕ → ℕ → ℕ
start_onto zero start at = at
start_onto (suc n) start at = start

abbrev pub step_onto : List ℕ → ℕ → ℕ → ℕ → List ℕ
step_onto step zero last at = step
step_onto step (suc n) last at = slice_set step last at

-- the steps ahead lead from a first number through a list, and the steps back from a last one through the same list backwards
pub record IsThread (nexts previouses : List ℕ) (first last : ℕ) (xs : List ℕ) : Type 0 where
  pub ahead : LeadsThrough nexts first xs
  pub back : LeadsThrough previouses last (reverse xs)
  pub apart : AllPairs (λ x y. x ≢ y) xs
  pub within : (x : ℕ) → Contains xs x → (x < length nexts) × (x < length previouses)
