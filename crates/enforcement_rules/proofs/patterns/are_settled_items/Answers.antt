use Rattle.std.proofs.Common.{sym, arith}
use Rattle.enforcement_rules.proofs.patterns.are_settled_items.Goals as goal

pub is_settled_item-requires-clause-prop : goal.is_settled_item-requires-clause-prop
is_settled_item-requires-clause-prop c = c.requires.props c.item-item.result (c.loop-item.item-index, omega arith, sym c.item-item.is)
