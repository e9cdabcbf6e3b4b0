use Rattle.std.proofs.Common.{◌≡◌, drop}
use Rattle.std.specs.List.{list_any}
use Rattle.enforcement_rules.specs.ExpressionTests.{item_touches}
use Rattle.enforcement_rules.proofs.expressions.items_touch.Given as goal

abbrev pub invariant-loop-item : goal.invariant-loop-item
invariant-loop-item l = let p = item_touches l.task.program.now l.task.rel.now l.task.meta l.task.readers.now in list_any p (drop l.item-index l.items) ≡ list_any p l.items
