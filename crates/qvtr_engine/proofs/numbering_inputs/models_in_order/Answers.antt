use Rattle.std.proofs.Common.{[], ◌∷◌, ◌++◌, sym, ◌∙◌, ap}
use Rattle.script_scopes.specs.ScriptNames.{model_names}
use Rattle.qvtr_engine.specs.CheckedModels.{no_model}
use Rattle.qvtr_engine.proofs.NumberingLaws.{still_named, remains_more, numbered_more, not_missing, name_at}
use Rattle.qvtr_engine.proofs.numbering_inputs.models_in_order.Goals as goal

pub unreachable-requires : goal.unreachable-requires
unreachable-requires c =
    not_missing c.args.found.items c.loop-model.found.items (model_names c.args.models.now) c.loop-model.model-index c.model-item.result.name.text c.requires.distinct
    (name_at c.args.models.now c.loop-model.model-index c.model-item.result c.loop-model-test.true c.model-item.is)
    c.loop-model.invariant.rest c.requires.each (sym c.take_named.ensures.item ∙ c.in-None.is)

pub loop-model-preserved : goal.loop-model-preserved
loop-model-preserved c =
    let at = name_at c.args.models.now c.loop-model.model-index c.model-item.result c.loop-model-test.true c.model-item.is in
    let still = still_named c.args.found.items c.loop-model.found.items (model_names c.args.models.now) c.loop-model.model-index c.model-item.result.name.text c.requires.distinct at c.loop-model.invariant.rest in
    record {
      numbered = c.in_ok-push-in-Some.ensures.ok ∙ ap (λ xs. xs ++ c.in-Some.item ∷ []) c.loop-model.invariant.numbered
          ∙ numbered_more no_model c.args.found.items (model_names c.args.models.now) c.loop-model.model-index c.model-item.result.name.text c.in-Some.item at
          (sym still ∙ sym c.take_named.ensures.item ∙ c.in-Some.is);
      rest = remains_more c.args.found.items c.loop-model.found.items c.take_named.new.found.items (model_names c.args.models.now) c.loop-model.model-index c.model-item.result.name.text at
          c.loop-model.invariant.rest c.take_named.ensures.others;
    }
