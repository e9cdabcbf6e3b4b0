use Rattle.std.proofs.Common.{◌≡◌, drop, map}
use Rattle.enforcement_rules.specs.KeyTests.{has_many}
use Rattle.enforcement_rules.specs.NumberSets.{has}
use Rattle.enforcement_rules.specs.Standings.{shown_standing}
use Rattle.enforcement_rules.proofs.keys.any_many.Given as goal

abbrev pub invariant-loop-standing : goal.invariant-loop-standing
invariant-loop-standing l = let f = has_many l.task.rel.now l.task.keys.now (has l.existential) in f (map shown_standing (drop l.standing-index l.templates)) ≡ f (map shown_standing l.templates)
