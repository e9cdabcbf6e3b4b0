use Rattle.std.proofs.Common.{◌≡◌, ◌++◌, take}
use Rattle.enforcement_rules.specs.KeyTests.{item_props}
use Rattle.enforcement_rules.proofs.keys.put_props.Given as goal

abbrev pub invariant-loop-item : goal.invariant-loop-item
invariant-loop-item l = l.out ≡ l.fn.out ++ item_props (take l.item-index l.items)
