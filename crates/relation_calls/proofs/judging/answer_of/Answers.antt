use Rattle.std.proofs.Common.{[], ◌∷◌, sym, subst}
use Rattle.std.specs.Prelude.{Some, IfSome}
use Rattle.qvtr_semantics.specs.Calls.{RelationCall}
use Rattle.relation_calls.specs.Owing.{MayFollow, IsAnswer}
use Rattle.relation_calls.specs.Visits.{upto_of}
use Rattle.relation_calls.proofs.judging.answer_of.Goals as goal

pub answer_at-requires-clause-follows : goal.answer_at-requires-clause-follows
answer_at-requires-clause-follows c =
    let v = c.args.visit.now in
    subst (λ (d : RelationCall). MayFollow v.program.now v.models.now (upto_of v) c.args.clause d) (sym c.in_ok-key.ensures) c.requires.follows

pub returns : goal.returns
returns c =
    let v = c.args.visit.now in
    subst (λ (d : RelationCall). IfSome c.answer_at.result (IsAnswer v.program.now v.models.now (upto_of v) c.args.clause (Some d ∷ []))) c.in_ok-key.ensures c.answer_at.ensures
