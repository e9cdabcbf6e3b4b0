use Rattle.std.proofs.Common.{◌≡◌, take, map}
use Rattle.enforcement_rules.specs.KeyCycles.{key_edges}
use Rattle.enforcement_rules.specs.NumberSets.{has}
use Rattle.enforcement_rules.specs.Standings.{shown_standing}
use Rattle.enforcement_rules.proofs.key_cycles.key_edges.Given as goal

abbrev pub invariant-loop-standing : goal.invariant-loop-standing
invariant-loop-standing l = l.edges ≡ key_edges l.task.metas.now l.task.program.now l.task.rel.now l.task.meta l.task.keys.now (has l.existential) (map shown_standing (take l.standing-index l.templates))
