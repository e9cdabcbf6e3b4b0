use Rattle.std.proofs.Common.{◌≡◌, drop}
use Rattle.std.specs.List.{list_any}
use Rattle.enforcement_rules.specs.NumberSets.{has}
use Rattle.enforcement_rules.specs.CallTests.{is_untaken}
use Rattle.enforcement_rules.proofs.calls.any_untaken.Given as goal

abbrev pub invariant-loop-v : goal.invariant-loop-v
invariant-loop-v l = let p = is_untaken l.task.program.now l.task.rel.now (has l.taken) in list_any p (drop l.v-index l.task.rel.now.universal) ≡ list_any p l.task.rel.now.universal
