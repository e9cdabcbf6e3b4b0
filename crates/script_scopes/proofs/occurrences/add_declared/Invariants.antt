use Rattle.std.proofs.Common.{◌≡◌, ◌++◌, take}
use Rattle.std.specs.List.{flat_map}
use Rattle.script_scopes.specs.Occurrences.{declared_names}
use Rattle.script_scopes.proofs.occurrences.add_declared.Given as goal

abbrev pub invariant-loop-declared : goal.invariant-loop-declared
invariant-loop-declared l = l.out ≡ l.fn.out ++ flat_map declared_names (take l.declared-index l.vars)
