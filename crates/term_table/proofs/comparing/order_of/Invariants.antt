use Rattle.std.proofs.Common.{◌≡◌}
use Rattle.repair_semantics.specs.Terms.{term_order}
use Rattle.term_table.specs.TermTables.{term_at}
use Rattle.term_table.specs.Kept.{trees}
use Rattle.term_table.proofs.comparing.order_of.Given as goal

abbrev pub invariant-loop-one : goal.invariant-loop-one
invariant-loop-one l = term_order (term_at (trees l.kept) l.one) (term_at (trees l.kept) l.other) ≡ term_order (term_at (trees l.kept) l.fn.one) (term_at (trees l.kept) l.fn.other)

-- where others decide, the first of them has a lesser number
abbrev pub decreases-loop-one : goal.decreases-loop-one
decreases-loop-one l = l.one
