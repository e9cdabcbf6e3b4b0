use Rattle.std.proofs.Common.{◌≡◌, ◌++◌, map, take}
use Rattle.std.specs.List.{flat_map}
use Rattle.script_scopes.specs.VariableTypes.{written_in, shown_written}
use Rattle.script_scopes.proofs.written.add_declarations.Given as goal

abbrev pub invariant-loop-vars : goal.invariant-loop-vars
invariant-loop-vars l = map shown_written l.out ≡ map shown_written l.fn.out ++ flat_map written_in (take l.vars-index l.declarations)
