use Rattle.std.proofs.Common.{◌≡◌, ◌-◌, ℕ, drop, map, length}
use Rattle.std.specs.List.{list_any}
use Rattle.enforcement_rules.specs.NumberSets.{has}
use Rattle.enforcement_rules.specs.CallTests.{shown_pair, is_for_root, given_pairs}
use Rattle.enforcement_rules.proofs.calls.given_pairs.Given as goal

-- those of the last arguments, and their roots are met
abbrev pub invariant-loop-k : goal.invariant-loop-k
invariant-loop-k l = (map shown_pair l.given ≡ given_pairs (drop (length l.pairs - l.k) (map shown_pair l.pairs)))
    × ((q : ℕ) → has l.met q ≡ list_any (is_for_root q) (drop (length l.pairs - l.k) (map shown_pair l.pairs)))
