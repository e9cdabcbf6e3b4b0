use Rattle.std.proofs.Common.{◌≡◌, take}
use Rattle.entry_walk.proofs.copying.duplicate_roots.Given as goal

abbrev pub invariant-loop-root : goal.invariant-loop-root
invariant-loop-root l = l.copies ≡ take l.root-index l.roots
