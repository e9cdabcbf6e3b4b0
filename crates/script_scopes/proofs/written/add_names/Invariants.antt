use Rattle.std.proofs.Common.{◌≡◌, ◌++◌, map, take}
use Rattle.script_scopes.specs.VariableTypes.{shown_written}
use Rattle.script_scopes.proofs.written.add_names.Given as goal

abbrev pub invariant-loop-name : goal.invariant-loop-name
invariant-loop-name l = map shown_written l.out ≡ map shown_written l.fn.out ++ map (λ n. (n.text, l.tree)) (take l.name-index l.names)
