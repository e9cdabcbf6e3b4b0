-- No two terms that are kept are one.
use Rattle.std.proofs.Common.{subst, sym}
use Rattle.term_table.specs.TermTables.{AreDistinct}
use Rattle.term_table.specs.Kept.{trees}
use Rattle.term_table.proofs.KeptLaws.{distinct}
use Rattle.term_table.proofs.table.TermTable.order.Goals as goal

pub order_of-requires-clause-distinct : goal.order_of-requires-clause-distinct
order_of-requires-clause-distinct c =
    subst (λ ks. AreDistinct (trees ks)) (sym c.as_slice.ensures.value) (distinct c.self.inside.kept.items c.self.inside.numbers.entries c.self.invariant)
