use Rattle.std.proofs.Common.{◌≡◌, ℕ, ◌<◌, []}
use Rattle.call_graph.specs.declared.standing.Standing.TheVariants as stands
use Rattle.call_graph.specs.Walks.{standing_at, IsWalk}
use Rattle.call_graph.proofs.walk.visit_all.Given as goal

-- the nodes so far were looked at
abbrev pub invariant-loop-root : goal.invariant-loop-root
invariant-loop-root l = record {
  walk : IsWalk l.whens l.wheres l.walk.standings.items l.walk.passed.items l.walk.stack [];
  path : l.walk.path ≡ [];
  looked : (u : ℕ) → u < l.root → standing_at l.walk.standings.items u ≡ stands.New → ⊥;
}
