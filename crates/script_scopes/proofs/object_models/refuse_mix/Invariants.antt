use Rattle.std.proofs.Common.{take}
use Rattle.std.specs.Prelude.{All}
use Rattle.script_scopes.specs.ModelLists.{HasItsModel}
use Rattle.script_scopes.proofs.object_models.refuse_mix.Given as goal

abbrev pub invariant-loop-model : goal.invariant-loop-model
invariant-loop-model l = All (HasItsModel l.types l.models) (take l.model-index l.given)
