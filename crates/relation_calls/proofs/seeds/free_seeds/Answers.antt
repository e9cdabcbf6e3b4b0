use Rattle.std.proofs.lemmas.Result.{IfOk-weaker}
use Rattle.template_match.specs.Search.{values_of}
use Rattle.relation_calls.proofs.SeedLaws.{free_seeds}
use Rattle.relation_calls.proofs.seeds.free_seeds.Goals as goal

pub returns : goal.returns
returns c =
    let v = c.args.visit.now in
    IfOk-weaker c.free_seed.result _ _ (λ seeds is. free_seeds v.program.now v.models.now v.rel.now (values_of seeds) is) c.free_seed.ensures
