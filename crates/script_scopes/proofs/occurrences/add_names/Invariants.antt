use Rattle.std.proofs.Common.{◌≡◌, ◌++◌, map, take}
use Rattle.script_scopes.proofs.occurrences.add_names.Given as goal

abbrev pub invariant-loop-name : goal.invariant-loop-name
invariant-loop-name l = l.out ≡ l.fn.out ++ map (λ n. n.text) (take l.name-index l.names)
