use Rattle.std.proofs.Common.{◌≡◌, drop}
use Rattle.std.specs.List.{list_any}
use Rattle.enforcement_rules.specs.ExpressionTests.{is_touch}
use Rattle.enforcement_rules.proofs.expressions.any_touch.Given as goal

abbrev pub invariant-loop-mention : goal.invariant-loop-mention
invariant-loop-mention l = let p = is_touch l.task.program.now l.task.rel.now l.task.meta l.task.readers.now l.may_stand in list_any p (drop l.mention-index l.found) ≡ list_any p l.found
