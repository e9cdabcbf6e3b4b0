use Rattle.std.proofs.Common.{sym, subst}
use Rattle.qvtr_semantics.specs.Calls.{RelationCall}
use Rattle.relation_calls.specs.Owing.{MayFollow}
use Rattle.relation_calls.specs.Visits.{upto_of}
use Rattle.relation_calls.proofs.stepping.ask.Goals as goal

pub answer_at-requires-clause-follows : goal.answer_at-requires-clause-follows
answer_at-requires-clause-follows c =
    let v = c.args.visit.now in
    subst (λ (d : RelationCall). MayFollow v.program.now v.models.now (upto_of v) c.args.call.now.clause d) (sym c.in_ok-key.ensures) c.requires.follows
