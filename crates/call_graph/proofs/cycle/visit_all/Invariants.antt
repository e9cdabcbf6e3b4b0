use Rattle.std.proofs.Common.{◌≡◌, ℕ, ◌<◌, []}
use Rattle.call_graph.specs.declared.mark.Mark.TheVariants as marked
use Rattle.call_graph.specs.Searches.{mark_at, IsSearch}
use Rattle.call_graph.proofs.cycle.visit_all.Given as goal

-- the nodes so far were looked at
abbrev pub invariant-loop-root : goal.invariant-loop-root
invariant-loop-root l = IsSearch l.graph l.marks l.next [] × ((u : ℕ) → u < l.root → mark_at l.marks u ≡ marked.New → ⊥)
