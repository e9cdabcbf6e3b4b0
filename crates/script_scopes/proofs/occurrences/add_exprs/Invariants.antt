use Rattle.std.proofs.Common.{◌≡◌, ◌++◌, take}
use Rattle.std.specs.List.{flat_map}
use Rattle.script_scopes.specs.Usages.{variables_in}
use Rattle.script_scopes.proofs.occurrences.add_exprs.Given as goal

abbrev pub invariant-loop-e : goal.invariant-loop-e
invariant-loop-e l = l.out ≡ l.fn.out ++ flat_map variables_in (take l.e-index l.exprs)
