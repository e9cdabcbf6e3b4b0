use Rattle.std.proofs.Common.{◌≡◌, drop}
use Rattle.std.specs.Set.{is_member}
use Rattle.std.specs.Prelude.{chars}
use Rattle.mof_metamodel.specs.Characters.{same_name}
use Rattle.script_scopes.specs.ScriptNames.{model_names}
use Rattle.script_scopes.proofs.names.is_model.Given as goal

abbrev pub invariant-loop-model : goal.invariant-loop-model
invariant-loop-model l = is_member same_name (model_names (drop l.model-index l.models)) (chars l.name) ≡ is_member same_name (model_names l.models) (chars l.name)
