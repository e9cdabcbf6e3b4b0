use Rattle.std.proofs.Common.{◌≡◌, true, take}
use Rattle.std.specs.Prelude.{All}
use Rattle.std.specs.Set.{is_member}
use Rattle.mof_metamodel.specs.Characters.{same_name}
use Rattle.script_scopes.specs.ScriptNames.{written_names}
use Rattle.script_scopes.proofs.names.first_extra.Given as goal

abbrev pub invariant-loop-i : goal.invariant-loop-i
invariant-loop-i l = All (λ n. is_member same_name (written_names l.models) n ≡ true) (take l.i l.names)
