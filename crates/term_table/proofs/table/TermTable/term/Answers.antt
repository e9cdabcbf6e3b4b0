use Rattle.std.specs.Prelude.{length}
use Rattle.std.proofs.Common.{ap, arith}
use Rattle.term_table.proofs.KeptLaws.{length_trees}
use Rattle.term_table.proofs.table.TermTable.term.Goals as goal

pub tree_of-requires-clause-within : goal.tree_of-requires-clause-within
tree_of-requires-clause-within c = omega (arith, ap length c.self.view_is, length_trees c.self.inside.kept.items, ap length c.as_slice.ensures.value, c.requires)
