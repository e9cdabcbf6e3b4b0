use Rattle.std.proofs.Common.{◌≡◌, drop}
use Rattle.std.specs.List.{list_any}
use Rattle.enforcement_rules.specs.NumberSets.{has}
use Rattle.enforcement_rules.specs.PatternTests.{is_unmade}
use Rattle.enforcement_rules.proofs.patterns.any_unmade.Given as goal

abbrev pub invariant-loop-v : goal.invariant-loop-v
invariant-loop-v l = let p = is_unmade l.task.program.now l.task.rel.now (has l.concrete) (has l.handed) in list_any p (drop l.v-index l.task.rel.now.existential) ≡ list_any p l.task.rel.now.existential
