use Rattle.std.proofs.Common.{◌≡◌}
use Rattle.call_graph.specs.declared.mark.Mark.TheVariants as marked
use Rattle.call_graph.specs.Searches.{mark_at, IsSearch, StaySeen, weight}
use Rattle.call_graph.proofs.cycle.search.Given as goal

-- the search stands, and what was looked at stays so, the root too
abbrev pub invariant-loop-u : goal.invariant-loop-u
invariant-loop-u l = IsSearch l.graph l.marks l.next l.path × StaySeen l.fn.marks l.marks × (mark_at l.marks l.root ≡ marked.New → ⊥)

abbrev pub decreases-loop-u : goal.decreases-loop-u
decreases-loop-u l = weight l.marks l.path
