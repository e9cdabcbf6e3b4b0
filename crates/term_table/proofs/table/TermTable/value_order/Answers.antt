-- What the comparison says of terms of this table is the order of values.
use Rattle.std.proofs.Common.{ap, ◌∙◌}
use Rattle.term_table.specs.Compared.{order_in}
use Rattle.term_table.proofs.ComparedLaws.{values_law}
use Rattle.term_table.proofs.table.TermTable.value_order.Goals as goal

pub returns-in-Decided : goal.returns-in-Decided
returns-in-Decided c = ap (order_in c.args.self.now) c.in-Decided.ensures ∙ values_law c.args.self.now c.args.one.now c.args.other.now

pub returns-in-As : goal.returns-in-As
returns-in-As c = c.order.ensures ∙ ap (order_in c.args.self.now) c.in-As.ensures ∙ values_law c.args.self.now c.args.one.now c.args.other.now
