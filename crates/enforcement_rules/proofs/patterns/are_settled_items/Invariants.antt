use Rattle.std.proofs.Common.{◌≡◌, drop}
use Rattle.std.specs.List.{list_all}
use Rattle.enforcement_rules.specs.PatternTests.{is_settled_item}
use Rattle.enforcement_rules.proofs.patterns.are_settled_items.Given as goal

abbrev pub invariant-loop-item : goal.invariant-loop-item
invariant-loop-item l = let p = is_settled_item l.task.metas.now l.task.program.now l.task.rel.now l.task.meta l.known in list_all p (drop l.item-index l.items) ≡ list_all p l.items
