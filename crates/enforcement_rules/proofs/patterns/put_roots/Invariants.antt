use Rattle.std.proofs.Common.{◌≡◌, ◌++◌, take}
use Rattle.std.specs.List.{flat_map}
use Rattle.enforcement_rules.specs.PatternTests.{target_root}
use Rattle.enforcement_rules.proofs.patterns.put_roots.Given as goal

abbrev pub invariant-loop-dom : goal.invariant-loop-dom
invariant-loop-dom l = l.out ≡ l.fn.out ++ flat_map (target_root l.program) (take l.dom-index l.doms)
