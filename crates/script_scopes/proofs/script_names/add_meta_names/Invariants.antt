use Rattle.std.proofs.Common.{◌≡◌, ◌++◌, take}
use Rattle.script_scopes.specs.ScriptNames.{meta_names}
use Rattle.script_scopes.proofs.script_names.add_meta_names.Given as goal

abbrev pub invariant-loop-model : goal.invariant-loop-model
invariant-loop-model l = l.out ≡ l.fn.out ++ meta_names (take l.model-index l.models)
