-- There are as many terms as are kept, and no two of them are one.
use Rattle.std.specs.Prelude.{length}
use Rattle.std.proofs.Common.{ap, subst, arith}
use Rattle.term_table.specs.TermTables.{AreDistinct}
use Rattle.term_table.proofs.KeptLaws.{length_trees, distinct}
use Rattle.term_table.proofs.table.TermTable.len.Goals as goal

pub returns-clause-len : goal.returns-clause-len
returns-clause-len c = omega (arith, c.len.ensures, ap length c.self.view_is, length_trees c.self.inside.kept.items)

pub returns-clause-distinct : goal.returns-clause-distinct
returns-clause-distinct c = subst AreDistinct c.self.view_is (distinct c.self.inside.kept.items c.self.inside.numbers.entries c.self.invariant)
