use Rattle.term_table.proofs.SortedLaws.{sorted_terms, sorted_within}
use Rattle.term_table.proofs.table.TermTable.sorted.Goals as goal

pub returns-clause-terms : goal.returns-clause-terms
returns-clause-terms c = sorted_terms c.args.self.now c.args.numbers c.in_order.result c.without_neighbours.result c.in_order.ensures.same c.in_order.ensures.sorted c.without_neighbours.ensures

pub returns-clause-within : goal.returns-clause-within
returns-clause-within c = sorted_within c.args.self.now c.args.numbers c.in_order.result c.without_neighbours.result c.in_order.ensures.same c.in_order.ensures.sorted c.without_neighbours.ensures c.requires
