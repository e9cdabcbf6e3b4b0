use Rattle.ocl_types.proofs.RelationLaws.{branches_decide, elements_decide, given_decides, models_decide}
use Rattle.ocl_types.proofs.laws.rules_are_told.Goals as goal

pub returns-clause-branches : goal.returns-clause-branches
returns-clause-branches c = λ a b t one other. let d = branches_decide c.args.metas.now c.len-count.ensures.well a b one other in (d.told t, d.only t)

pub returns-clause-elements : goal.returns-clause-elements
returns-clause-elements c = λ tys t over. let d = elements_decide c.args.metas.now c.len-count.ensures.well tys over in (d.told t, d.only t)

pub returns-clause-given : goal.returns-clause-given
returns-clause-given c = λ argument kind of args t one over count.
    let d = given_decides c.args.metas.now c.len-count.ensures.well kind of one argument args count over in (d.told t, d.only t)

pub returns-clause-model : goal.returns-clause-model
returns-clause-model c = λ name model parts m. let d = models_decide name model parts in (d.told m, d.only m)
