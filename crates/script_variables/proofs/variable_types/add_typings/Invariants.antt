use Rattle.std.proofs.Common.{◌≡◌, ◌++◌, map, take}
use Rattle.std.specs.Prelude.{All}
use Rattle.std.specs.List.{flat_map}
use Rattle.script_scopes.specs.VariableTypes.{shown_written, written_typing, HasSingle}
use Rattle.script_variables.proofs.variable_types.add_typings.Given as goal

abbrev pub invariant-loop-w : goal.invariant-loop-w
invariant-loop-w l = record {
  typed : l.out ≡ l.fn.out ++ flat_map (written_typing l.env) (map shown_written (take l.w-index l.written));
  single : All (HasSingle l.env) (map shown_written (take l.w-index l.written));
}
