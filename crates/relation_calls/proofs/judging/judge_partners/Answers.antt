use Rattle.std.proofs.lemmas.Result.{IfOk-weaker}
use Rattle.relation_calls.proofs.judging.judge_partners.Goals as goal

pub target_bindings-requires-clause-meant : goal.target_bindings-requires-clause-meant
target_bindings-requires-clause-meant c = c.requires.visit.formed.1.relations

pub target_bindings-requires-clause-planned : goal.target_bindings-requires-clause-planned
target_bindings-requires-clause-planned c = (c.args.visit.now.rel.now, c.requires.visit.planned, c.requires.source.places, c.requires.source.universals)

pub judge_found-requires-clause-linked : goal.judge_found-requires-clause-linked
judge_found-requires-clause-linked c = λ g has.
    let v = c.args.visit.now in
    c.requires.linked g ((c.in_ok-gs.ensures.exact v.rel.now c.requires.visit.planned g).0 has)

pub returns : goal.returns
returns c =
    let v = c.args.visit.now in
    let b = c.args.b.now.values in
    IfOk-weaker c.judge_found.result _ _
    (λ j judged. judged b (record { matched = c.requires.matched; clean = c.requires.clean; exact = c.in_ok-gs.ensures.exact v.rel.now c.requires.visit.planned }))
    c.judge_found.ensures
