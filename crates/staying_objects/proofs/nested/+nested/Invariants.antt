use Rattle.std.proofs.Common.{◌≡◌, ◌++◌, take}
use Rattle.std.specs.List.{flat_map}
use Rattle.staying_objects.specs.Nested.{item_variables}
use Rattle.staying_objects.proofs.nested.+nested.Given as goal

abbrev pub invariant-put_items-loop-item : goal.invariant-put_items-loop-item
invariant-put_items-loop-item l = l.out ≡ l.fn.out ++ flat_map item_variables (take l.item-index l.items)
