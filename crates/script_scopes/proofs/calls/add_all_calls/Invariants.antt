use Rattle.std.proofs.Common.{◌≡◌, ◌++◌, take}
use Rattle.std.specs.List.{flat_map}
use Rattle.script_scopes.specs.Usages.{calls_in}
use Rattle.script_scopes.proofs.calls.add_all_calls.Given as goal

abbrev pub invariant-loop-e : goal.invariant-loop-e
invariant-loop-e l = l.out ≡ l.fn.out ++ flat_map calls_in (take l.e-index l.exprs)
