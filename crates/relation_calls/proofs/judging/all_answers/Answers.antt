use Rattle.std.proofs.Common.{ℕ, [], ◌∷◌, ◌<◌, ◌+◌, arith, length, subst, sym, take}
use Rattle.std.specs.Prelude.{IfSome}
use Rattle.std.specs.Option.{option_map}
use Rattle.relation_calls.specs.Names.{call_named, calls_named}
use Rattle.relation_calls.specs.Owing.{IsAnswer}
use Rattle.relation_calls.specs.Visits.{upto_of}
use Rattle.relation_calls.proofs.OwingLaws.{no_answers, call_follows, answer_more, all_answered}
use Rattle.relation_calls.proofs.judging.all_answers.Goals as goal

pub loop-call-init : goal.loop-call-init
loop-call-init c = let v = c.args.visit.now in no_answers v.program.now v.models.now (upto_of v) c.args.clause

pub optional_answer-requires-clause-follow : goal.optional_answer-requires-clause-follow
optional_answer-requires-clause-follow c =
    let v = c.args.visit.now in
    let within : c.loop-call.call-index < length c.args.calls.now = omega arith in
    call_follows v.program.now v.models.now (upto_of v) c.args.calls.now c.loop-call.call-index c.call-item.result within c.call-item.is c.args.clause c.requires.follow

pub loop-call-preserved : goal.loop-call-preserved
loop-call-preserved c =
    let v = c.args.visit.now in
    let i : ℕ = c.loop-call.call-index in
    let within : i < length c.args.calls.now = omega arith in
    let item = c.call-item.result in
    subst (IsAnswer v.program.now v.models.now (upto_of v) c.args.clause (calls_named (take (i + 1) c.args.calls.now))) (sym c.and-all.ensures) (
    answer_more v.program.now v.models.now (upto_of v) c.args.calls.now i item within c.call-item.is (i + 1) (omega arith) c.args.clause c.loop-call.all c.in-Some.one c.loop-call.invariant
    (subst (λ o. IfSome o (IsAnswer v.program.now v.models.now (upto_of v) c.args.clause (option_map call_named item ∷ []))) c.in-Some.is c.in_ok-one.ensures)
    )

pub returns : goal.returns
returns c =
    let v = c.args.visit.now in
    all_answered v.program.now v.models.now (upto_of v) c.args.calls.now c.loop-call.call-index (omega arith) c.args.clause c.loop-call.all c.loop-call.invariant
