use Rattle.std.proofs.Common.{[], ◌∷◌, false, sym, subst, refl, arith}
use Rattle.std.specs.Prelude.{Some, IfOk, IfSome, Contains}
use Rattle.std.specs.Option.{option_map}
use Rattle.relation_calls.specs.Names.{call_named}
use Rattle.relation_calls.specs.Owing.{IsAnswer}
use Rattle.relation_calls.specs.Visits.{upto_of}
use Rattle.relation_calls.proofs.OwingLaws.{none_answer}
use Rattle.relation_calls.proofs.judging.optional_answer.Goals as goal

pub answer_of-requires-clause-follows : goal.answer_of-requires-clause-follows
answer_of-requires-clause-follows c =
    let d = call_named c.in-Some.name in
    c.requires.follow d (subst (λ o. Contains (option_map call_named o ∷ []) (Some d)) (sym c.in-Some.is) (0, omega arith, refl))

pub returns-in-Some : goal.returns-in-Some
returns-in-Some c =
    let v = c.args.visit.now in
    subst (λ o. IfOk c.answer_of.result (λ x. IfSome x (IsAnswer v.program.now v.models.now (upto_of v) c.args.clause (option_map call_named o ∷ [])))) (sym c.in-Some.is) c.answer_of.ensures

pub returns-in-None : goal.returns-in-None
returns-in-None c =
    let v = c.args.visit.now in
    subst (λ o. IsAnswer v.program.now v.models.now (upto_of v) c.args.clause (option_map call_named o ∷ []) (record { holds = false; height = 0 })) (sym c.in-None.is) (none_answer v.program.now v.models.now (upto_of v) c.args.clause)
