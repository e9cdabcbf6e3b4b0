use Rattle.std.specs.Prelude.{List, Option, IfSome}
use Rattle.std.proofs.Common.{subst}
use Rattle.object_tables.specs.Models.{ModelData}
use Rattle.qv_syntax.specs.declared.query.ModelSlot.{ModelSlot}
use Rattle.evaluation_laws.specs.TypedValues.{AreModels}
use Rattle.repair_cases.proofs.trials.tried_from.Goals as goal

pub tried_over-ended-requires-clause-evaluable : goal.tried_over-ended-requires-clause-evaluable
tried_over-ended-requires-clause-evaluable c =
    let metas = c.args.of.now.metas.now in
    let found =
    subst (λ (o : Option (List ModelData)). IfSome o (λ models. AreModels metas (record { slots = c.as_slice.result.now; models = models }))) c.in-Some.is
    c.in_ok-models.ensures in
    record {
      well = c.requires.formed;
      texts = c.texts_are_storable.ensures;
      kept = subst (λ (slots : List ModelSlot). AreModels metas (record { slots = slots; models = c.in-Some.models })) c.as_slice.ensures found;
    }

pub tried_over-ended-requires-clause-relations : goal.tried_over-ended-requires-clause-relations
tried_over-ended-requires-clause-relations c = c.requires.relations

pub tried_over-ended-requires-clause-enforceable : goal.tried_over-ended-requires-clause-enforceable
tried_over-ended-requires-clause-enforceable c = c.requires.enforceable
