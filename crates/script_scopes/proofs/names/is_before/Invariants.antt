use Rattle.std.proofs.Common.{◌≡◌, false, take}
use Rattle.std.specs.Set.{is_member}
use Rattle.mof_metamodel.specs.Characters.{same_name}
use Rattle.script_scopes.specs.ScriptNames.{written_names}
use Rattle.script_scopes.proofs.names.is_before.Given as goal

abbrev pub invariant-loop-k : goal.invariant-loop-k
invariant-loop-k l = is_member same_name (take l.k (written_names l.models)) l.name ≡ false
