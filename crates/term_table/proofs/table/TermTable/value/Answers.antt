use Rattle.std.specs.Prelude.{length}
use Rattle.std.proofs.Common.{ap, arith}
use Rattle.term_table.proofs.TermTableLaws.{below_more}
use Rattle.term_table.proofs.KeptLaws.{length_trees}
use Rattle.term_table.proofs.table.TermTable.value.Goals as goal

pub value_of-requires-clause-below : goal.value_of-requires-clause-below
value_of-requires-clause-below c =
    below_more (length c.args.self.now) c.len.result c.args.value.now (omega (arith, c.len.ensures, ap length c.self.view_is, length_trees c.self.inside.kept.items)) c.requires
