use Rattle.std.proofs.Common.{◌≡◌, ◌||◌, ℕ, take}
use Rattle.enforcement_rules.specs.NumberSets.{is_among, has}
use Rattle.enforcement_rules.proofs.number_set.NumberSet.put_all.Given as goal

abbrev pub invariant-loop-n : goal.invariant-loop-n
invariant-loop-n l = (q : ℕ) → has l.self q ≡ (has l.fn.self q || is_among (take l.n-index l.numbers) q)
