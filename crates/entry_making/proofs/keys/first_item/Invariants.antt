use Rattle.std.proofs.Common.{◌≡◌, map, drop}
use Rattle.repair_semantics.specs.Making.{first_item}
use Rattle.entry_making.specs.Items.{shown_item}
use Rattle.entry_making.proofs.keys.first_item.Given as goal

abbrev pub invariant-loop-item : goal.invariant-loop-item
invariant-loop-item l = first_item (map shown_item (drop l.item-index l.items)) l.variable l.prop.0 ≡ first_item (map shown_item l.items) l.variable l.prop.0
