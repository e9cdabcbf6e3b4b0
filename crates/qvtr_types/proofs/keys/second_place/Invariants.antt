use Rattle.std.proofs.Common.{◌≡◌, ℕ, take}
use Rattle.std.specs.Prelude.{AllPairs}
use Rattle.qv_syntax.specs.Keys.{AreOfTwoClasses}
use Rattle.qvtr_types.specs.ClassSets.{has_class, has_key}
use Rattle.qvtr_types.proofs.keys.second_place.Given as goal

-- the classes so far were met, and no two are one
abbrev pub invariant-loop-place : goal.invariant-loop-place
invariant-loop-place l = ((q : ℕ × ℕ) → has_class l.met.classes q ≡ has_key (take l.place l.keys) q) × AllPairs AreOfTwoClasses (take l.place l.keys)
