use Rattle.std.proofs.Common.{map, take}
use Rattle.enforcement_rules.specs.Standings.{shown_standing, Adds, IsOfTarget, IsOfDomains}
use Rattle.enforcement_rules.proofs.templates.put_targets.Given as goal

abbrev pub invariant-loop-dom : goal.invariant-loop-dom
invariant-loop-dom l = Adds (IsOfDomains (IsOfTarget l.program) (take l.dom-index l.doms)) (map shown_standing l.fn.out) (map shown_standing l.out)
