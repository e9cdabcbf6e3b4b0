use Rattle.std.proofs.lemmas.Result.{IfOk-weaker}
use Rattle.template_match.specs.Search.{values_of}
use Rattle.relation_calls.proofs.JoinLaws.{joined_enough}
use Rattle.relation_calls.proofs.joins.joined.Goals as goal

pub joined_bindings-requires-clause-meant : goal.joined_bindings-requires-clause-meant
joined_bindings-requires-clause-meant c = c.requires.visit.formed.1.relations

pub joined_bindings-requires-clause-planned : goal.joined_bindings-requires-clause-planned
joined_bindings-requires-clause-planned c = (c.args.visit.now.rel.now, c.requires.visit.planned, c.requires.places, c.requires.primitives)

pub returns-clause-enough : goal.returns-clause-enough
returns-clause-enough c =
    let v = c.args.visit.now in
    IfOk-weaker c.joined_bindings.result _ _
    (λ bs exact. joined_enough v.program.now v.models.now v.rel.now c.args.fixed.now.values (values_of bs) c.in_ok-joins.joins c.as_slice.result.now c.as_slice.ensures c.in_ok-joins.ensures
    c.requires.calm (exact v.rel.now c.requires.visit.planned))
    c.joined_bindings.ensures.exact

pub returns-clause-sorted : goal.returns-clause-sorted
returns-clause-sorted c =
    IfOk-weaker c.joined_bindings.result _ _ (λ bs sorted. sorted c.args.visit.now.rel.now c.requires.visit.planned) c.joined_bindings.ensures.sorted
