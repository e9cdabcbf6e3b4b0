use Rattle.std.proofs.Common.{◌≡◌, take}
use Rattle.script_scopes.specs.ScriptNames.{model_names}
use Rattle.qvtr_engine.specs.CheckedModels.{no_model}
use Rattle.qvtr_engine.specs.FoundFiles.{items_named}
use Rattle.qvtr_engine.proofs.NumberingLaws.{Remains}
use Rattle.qvtr_engine.proofs.numbering_inputs.models_in_order.Given as goal

-- the models of the names so far were taken out, and all others are still there
abbrev pub invariant-loop-model : goal.invariant-loop-model
invariant-loop-model l = record {
  numbered : l.numbered ≡ items_named no_model l.initial.found.items (take l.model-index (model_names l.models));
  rest : Remains l.initial.found.items l.found.items (take l.model-index (model_names l.models));
}
