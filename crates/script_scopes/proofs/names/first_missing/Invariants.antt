use Rattle.std.proofs.Common.{◌≡◌, true, take}
use Rattle.std.specs.Prelude.{All}
use Rattle.std.specs.Set.{is_member}
use Rattle.mof_metamodel.specs.Characters.{same_name}
use Rattle.script_scopes.specs.ScriptNames.{written_names}
use Rattle.script_scopes.proofs.names.first_missing.Given as goal

abbrev pub invariant-loop-place : goal.invariant-loop-place
invariant-loop-place l = All (λ n. is_member same_name l.names n ≡ true) (take l.place (written_names l.models))
