use Rattle.std.proofs.Common.{◌≡◌, take, map}
use Rattle.ocl_environments.specs.Environments.{meta_at}
use Rattle.enforcement_rules.specs.PatternTests.{concrete_variables}
use Rattle.enforcement_rules.specs.Standings.{shown_standing}
use Rattle.enforcement_rules.proofs.patterns.concrete_variables.Given as goal

abbrev pub invariant-loop-standing : goal.invariant-loop-standing
invariant-loop-standing l = l.out ≡ concrete_variables (meta_at l.task.metas.now l.task.meta) (map shown_standing (take l.standing-index l.templates))
