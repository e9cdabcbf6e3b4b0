use Rattle.std.proofs.Common.{◌≡◌, drop, map}
use Rattle.std.specs.List.{list_any}
use Rattle.enforcement_rules.specs.ExpressionTests.{template_touches}
use Rattle.enforcement_rules.specs.Standings.{shown_standing}
use Rattle.enforcement_rules.proofs.expressions.templates_touch.Given as goal

abbrev pub invariant-loop-standing : goal.invariant-loop-standing
invariant-loop-standing l = let p = template_touches l.task.program.now l.task.rel.now l.task.meta l.task.readers.now in list_any p (map shown_standing (drop l.standing-index l.templates)) ≡ list_any p (map shown_standing l.templates)
