use Rattle.std.proofs.Common.{◌≡◌, map, drop}
use Rattle.repair_semantics.specs.Making.{item_around}
use Rattle.entry_making.specs.Items.{shown_item}
use Rattle.entry_making.proofs.keys.item_around.Given as goal

abbrev pub invariant-loop-item : goal.invariant-loop-item
invariant-loop-item l = item_around (map shown_item (drop l.item-index l.items)) l.variable ≡ item_around (map shown_item l.items) l.variable
