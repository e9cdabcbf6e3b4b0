use Rattle.std.proofs.Common.{map, take}
use Rattle.qvtr_types.specs.KeySearches.{AreEachKeys}
use Rattle.qvtr_types.proofs.keys.resolve_all.Given as goal

-- those so far are resolved
abbrev pub invariant-loop-tree : goal.invariant-loop-tree
invariant-loop-tree l = AreEachKeys l.env (map (λ t. t.now) (take l.tree-index l.trees)) l.keys
