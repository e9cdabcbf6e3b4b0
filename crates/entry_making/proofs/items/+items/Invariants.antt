use Rattle.std.proofs.Common.{◌≡◌, ◌++◌, map, take}
use Rattle.std.specs.List.{flat_map}
use Rattle.entry_making.specs.Items.{shown_item, item_parts}
use Rattle.entry_making.proofs.items.+items.Given as goal

abbrev pub invariant-put_items-loop-item : goal.invariant-put_items-loop-item
invariant-put_items-loop-item l = map shown_item l.out ≡ map shown_item l.fn.out ++ flat_map (λ part. part l.owner) (map item_parts (take l.item-index l.items))
