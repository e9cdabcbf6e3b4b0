use Rattle.std.specs.Prelude.{List, Option, IfSome}
use Rattle.std.proofs.Common.{subst}
use Rattle.object_tables.specs.Models.{ModelData}
use Rattle.qv_syntax.specs.declared.query.ModelSlot.{ModelSlot}
use Rattle.evaluation_laws.specs.TypedValues.{AreModels}
use Rattle.repair_cases.proofs.asking.put_of_files.Goals as goal

pub put_over_models-put-requires-clause-evaluable : goal.put_over_models-put-requires-clause-evaluable
put_over_models-put-requires-clause-evaluable c =
    let metas = c.args.of.now.metas.now in
    let found =
    subst (λ (o : Option (List ModelData)). IfSome o (λ models. AreModels metas (record { slots = c.as_slice.result.now; models = models }))) c.in-Some.is
    c.in_ok-models.ensures in
    record {
      well = c.requires.formed;
      texts = c.texts_are_storable.ensures;
      kept = subst (λ (slots : List ModelSlot). AreModels metas (record { slots = slots; models = c.in-Some.models })) c.as_slice.ensures found;
    }

pub put_over_models-put-requires-clause-relations : goal.put_over_models-put-requires-clause-relations
put_over_models-put-requires-clause-relations c = c.requires.relations

pub put_over_models-put-requires-clause-enforceable : goal.put_over_models-put-requires-clause-enforceable
put_over_models-put-requires-clause-enforceable c = c.requires.enforceable
