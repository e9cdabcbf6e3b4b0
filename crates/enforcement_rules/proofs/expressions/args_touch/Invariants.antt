use Rattle.std.proofs.Common.{◌≡◌, drop, true}
use Rattle.std.specs.List.{list_any}
use Rattle.enforcement_rules.specs.ExpressionTests.{touches}
use Rattle.enforcement_rules.proofs.expressions.args_touch.Given as goal

abbrev pub invariant-loop-e : goal.invariant-loop-e
invariant-loop-e l = let p = touches l.task.program.now l.task.rel.now l.task.meta l.task.readers.now true in list_any p (drop l.e-index l.args) ≡ list_any p l.args
