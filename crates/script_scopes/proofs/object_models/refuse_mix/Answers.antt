use Rattle.std.proofs.Common.{arith, subst}
use Rattle.std.specs.Prelude.{All}
use Rattle.std.proofs.lemmas.List.{take_all}
use Rattle.std.proofs.lemmas.List.Elements.{All-more}
use Rattle.script_scopes.specs.ModelLists.{HasItsModel}
use Rattle.script_scopes.proofs.object_models.refuse_mix.Goals as goal

pub loop-model-preserved : goal.loop-model-preserved
loop-model-preserved c =
    All-more (HasItsModel c.args.types.now c.args.models.now) c.args.given.now c.loop-model.model-index c.model-item.result (omega arith) c.loop-model.invariant
    (subst (HasItsModel c.args.types.now c.args.models.now) c.model-item.is c.in_ok-refuse_model.ensures.own)

pub returns-clause-own : goal.returns-clause-own
returns-clause-own c = subst (All (HasItsModel c.args.types.now c.args.models.now)) (take_all c.loop-model.model-index c.args.given.now (omega arith)) c.loop-model.invariant
