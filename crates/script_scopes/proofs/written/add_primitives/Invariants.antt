use Rattle.std.proofs.Common.{◌≡◌, ◌++◌, map, take}
use Rattle.std.specs.List.{flat_map}
use Rattle.script_scopes.specs.VariableTypes.{primitive_written, shown_written}
use Rattle.script_scopes.proofs.written.add_primitives.Given as goal

abbrev pub invariant-loop-domain : goal.invariant-loop-domain
invariant-loop-domain l = map shown_written l.out ≡ map shown_written l.fn.out ++ flat_map primitive_written (take l.domain-index l.domains)
