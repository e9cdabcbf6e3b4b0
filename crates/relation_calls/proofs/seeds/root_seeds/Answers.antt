use Rattle.std.proofs.Common.{◌∙◌, sym, ap}
use Rattle.std.proofs.lemmas.Result.{IfOk-weaker}
use Rattle.template_match.specs.Search.{values_of}
use Rattle.relation_calls.specs.Seeds.{first_root}
use Rattle.relation_calls.proofs.SeedLaws.{object_seeds}
use Rattle.relation_calls.proofs.seeds.root_seeds.Goals as goal

pub returns-in-Some-extent_for : goal.returns-in-Some-extent_for
returns-in-Some-extent_for c =
    let v = c.args.visit.now in
    IfOk-weaker c.object_seeds.result _ _
    (λ seeds is. object_seeds v.program.now v.models.now c.requires.visit.formed v.plan.now.rel v.rel.now c.requires.visit.planned.found c.in-Some.root c.in-Some-extent_for.model c.in-Some-extent_for.class
    (sym (c.in-Some.ensures ∙ ap (first_root v.program.now) c.as_slice.ensures)) (sym c.in-Some-extent_for.ensures) (values_of seeds) is)
    c.object_seeds.ensures

pub returns-in-None-extent_for : goal.returns-in-None-extent_for
returns-in-None-extent_for c = c.free_seeds.ensures

pub returns-in-None : goal.returns-in-None
returns-in-None c = c.free_seeds-in-None.ensures
