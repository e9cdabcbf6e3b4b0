use Rattle.std.specs.Prelude.{◌≡◌, ◌∷◌, ◌++◌, [], List, Option, IfSome, length}
use Rattle.std.proofs.Common.{get_or, refl, sym, ap, subst, ◌∙◌, arith, length-append}
use Rattle.object_tables.specs.Models.{ModelData}
use Rattle.evaluation_laws.specs.TypedValues.{IsModelFor, AreModels}
use Rattle.enforcement_rules.proofs.ListLaws.{place_found}
use Rattle.repair_cases.proofs.InputLaws.{model_more}
use Rattle.repair_cases.proofs.inputs.models_of.Goals as goal

pub loop-slot-preserved : goal.loop-slot-preserved
loop-slot-preserved c =
    let metas = c.args.metas.now in
    let slots = c.args.slots.now in
    let models = c.loop-slot.models in
    let model = c.in-Some.model in
    let put : c.push.new.self ≡ models ++ model ∷ [] = c.in_ok-push-in-Some.ensures.ok in
    let one = length-append models (model ∷ []) in
    let long = ap (λ (xs : List ModelData). length xs) put in
    let below = c.loop-slot-test.true in
    let at = place_found slots slots (length models) c.slot-item.result refl (omega (arith, c.loop-slot.invariant.count, below))
    (subst (λ n. c.slot-item.result ≡ get_or slots n c.slot-item.result) (sym c.loop-slot.invariant.count) c.slot-item.is) in
    let is = subst (λ (o : Option ModelData). IfSome o (IsModelFor metas c.slot-item.result)) c.in-Some.is c.in_ok-model.ensures in
    record {
      count = omega (arith, long, one, c.loop-slot.invariant.count);
      are = subst (λ (xs : List ModelData). AreModels metas (record { slots = slots; models = xs })) (sym put)
          (model_more metas slots models c.slot-item.result model at is c.loop-slot.invariant.are);
    }
