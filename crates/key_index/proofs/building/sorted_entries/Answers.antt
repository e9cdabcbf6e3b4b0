use Rattle.std.proofs.Common.{sym, subst}
use Rattle.key_index.specs.Holders.{AreAllHolders}
use Rattle.key_index.proofs.EntryLaws.{indexed}
use Rattle.key_index.proofs.OrderLaws.{once_indexed, once_sorted}
use Rattle.key_index.proofs.building.sorted_entries.Goals as goal

pub returns-clause-index : goal.returns-clause-index
returns-clause-index c =
    let m = c.args.model.now in
    once_indexed c.in_ok-holders.holders.items c.in_order.result.items c.without_neighbours.result.items c.without_neighbours.ensures m
    c.in_order.ensures.same
    (subst (AreAllHolders m) (sym c.in_ok-holders.ensures) (indexed m c.end.ensures.kept))

pub returns-clause-sorted : goal.returns-clause-sorted
returns-clause-sorted c =
    once_sorted c.in_ok-holders.holders.items c.in_order.result.items c.without_neighbours.result.items c.without_neighbours.ensures c.in_order.ensures.sorted
