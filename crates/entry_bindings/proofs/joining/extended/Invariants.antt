use Rattle.std.proofs.Common.{◌≡◌, ◌++◌, drop}
use Rattle.std.specs.List.{filter_map}
use Rattle.entry_bindings.specs.declared.matching.Match.{Match}
use Rattle.entry_bindings.specs.Joins.{filled, extended}
use Rattle.entry_bindings.proofs.joining.extended.Given as goal

abbrev pub invariant-loop-one : goal.invariant-loop-one
invariant-loop-one l = l.found ++ filter_map (λ (m : Match). filled l.b l.given m.roots) (drop l.one-index l.one-items) ≡ l.fn.found ++ extended l.task.matches.now l.b l.number l.given
