use Rattle.std.proofs.Common.{◌≡◌, drop, max, map}
use Rattle.repair_semantics.specs.Terms.{greatest}
use Rattle.term_table.specs.Kept.{kept_height}
use Rattle.term_table.proofs.kept.greatest_height.Given as goal

abbrev pub invariant-loop-key : goal.invariant-loop-key
invariant-loop-key l = max l.most (greatest (map (kept_height l.kept) (drop l.key-index l.keys))) ≡ greatest (map (kept_height l.kept) l.keys)
