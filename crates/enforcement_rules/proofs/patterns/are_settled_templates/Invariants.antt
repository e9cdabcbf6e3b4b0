use Rattle.std.proofs.Common.{◌≡◌, drop, map}
use Rattle.std.specs.List.{list_all}
use Rattle.enforcement_rules.specs.PatternTests.{is_settled_template}
use Rattle.enforcement_rules.specs.Standings.{shown_standing}
use Rattle.enforcement_rules.proofs.patterns.are_settled_templates.Given as goal

abbrev pub invariant-loop-standing : goal.invariant-loop-standing
invariant-loop-standing l = let p = is_settled_template l.task.metas.now l.task.program.now l.task.rel.now l.task.meta l.known in list_all p (map shown_standing (drop l.standing-index l.templates)) ≡ list_all p (map shown_standing l.templates)
