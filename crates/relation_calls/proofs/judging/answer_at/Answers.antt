use Rattle.std.proofs.Common.{[], ◌∷◌, ◌∙◌, refl, sym, subst}
use Rattle.std.specs.Prelude.{Some, IfSome}
use Rattle.relation_calls.specs.declared.clause_call.Clause.{Clause}
use Rattle.relation_calls.specs.Owing.{MayFollow, IsAnswer}
use Rattle.relation_calls.specs.Visits.{upto_of}
use Rattle.relation_calls.proofs.OwingLaws.{match_answer, hold_answer}
use Rattle.relation_calls.proofs.judging.answer_at.Goals as goal

pub returns-in-Some : goal.returns-in-Some
returns-in-Some c =
    let v = c.args.visit.now in
    let d = c.args.key.now in
    subst (λ (k : Clause). IsAnswer v.program.now v.models.now (upto_of v) k (Some d ∷ []) (record { holds = c.in-Some.holds; height = 0 })) (sym c.in-When.is)
    (match_answer v.program.now v.models.now (upto_of v) c.args.memo.now c.requires.told d c.in-Some.holds (sym c.kept_match.ensures ∙ c.in-Some.is))

pub returns-in-Where : goal.returns-in-Where
returns-in-Where c =
    let v = c.args.visit.now in
    let d = c.args.key.now in
    subst (λ (k : Clause). IfSome c.kept_hold.result (IsAnswer v.program.now v.models.now (upto_of v) k (Some d ∷ []))) (sym c.in-Where.is)
    (hold_answer v.program.now v.models.now (upto_of v) c.args.memo.now c.requires.told d d refl c.calls_left.result c.calls_left.ensures c.requires.visit.chain
    (subst (λ (k : Clause). MayFollow v.program.now v.models.now (upto_of v) k d) c.in-Where.is c.requires.follows) c.kept_hold.result c.kept_hold.ensures.kept)
