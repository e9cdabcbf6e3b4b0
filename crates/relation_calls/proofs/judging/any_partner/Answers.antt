use Rattle.std.proofs.Common.{ℕ, ◌<◌, ◌+◌, arith, length, subst, sym, take}
use Rattle.std.specs.Prelude.{IfSome}
use Rattle.template_match.specs.Search.{values_of}
use Rattle.relation_calls.specs.declared.clause_call.Clause.TheVariants.{Where}
use Rattle.relation_calls.specs.Owing.{IsAnswer, IsAnswerOfAny}
use Rattle.relation_calls.specs.Visits.{upto_of, wheres_of}
use Rattle.relation_calls.proofs.OwingLaws.{no_partners, partner_more, all_partners}
use Rattle.relation_calls.proofs.StepLaws.{value_here}
use Rattle.relation_calls.proofs.judging.any_partner.Goals as goal

pub loop-g-init : goal.loop-g-init
loop-g-init c = no_partners c.args.visit.now

pub is_partner-requires-clause-linked : goal.is_partner-requires-clause-linked
is_partner-requires-clause-linked c =
    let within : c.loop-g.g-index < length c.args.gs.now = omega arith in
    c.requires.linked c.g-item.result.values (value_here c.args.gs.now c.loop-g.g-index c.g-item.result within c.g-item.is)

pub loop-g-preserved : goal.loop-g-preserved
loop-g-preserved c =
    let v = c.args.visit.now in
    let i : ℕ = c.loop-g.g-index in
    let within : i < length c.args.gs.now = omega arith in
    let item = c.g-item.result in
    subst (IsAnswerOfAny v (values_of (take (i + 1) c.args.gs.now))) (sym c.or-any.ensures) (
    partner_more v c.args.gs.now i item within c.g-item.is (i + 1) (omega arith) c.loop-g.any c.in-Some.one c.loop-g.invariant
    (subst (λ o. IfSome o (IsAnswer v.program.now v.models.now (upto_of v) Where (wheres_of v item.values))) c.in-Some.is c.in_ok-one.ensures)
    )

pub returns : goal.returns
returns c = all_partners c.args.visit.now c.args.gs.now c.loop-g.g-index (omega arith) c.loop-g.any c.loop-g.invariant
