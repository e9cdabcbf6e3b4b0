use Rattle.std.proofs.lemmas.Result.{IfOk-weaker}
use Rattle.template_match.specs.Search.{values_of}
use Rattle.relation_calls.proofs.JoinLaws.{source_enough}
use Rattle.relation_calls.proofs.joins.enough_bindings.Goals as goal

pub returns-else-branch-clause-enough : goal.returns-else-branch-clause-enough
returns-else-branch-clause-enough c =
    let v = c.args.visit.now in
    IfOk-weaker c.bindings.result _ _
    (λ bs exact. source_enough v.program.now v.models.now v.rel.now c.args.fixed.now.values (values_of bs) (exact v.rel.now c.requires.visit.planned)) c.bindings.ensures.exact
