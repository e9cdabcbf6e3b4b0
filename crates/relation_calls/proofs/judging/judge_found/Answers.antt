use Rattle.std.proofs.Common.{List, sym, subst}
use Rattle.std.specs.Prelude.{◌↔◌, Contains, IfSome}
use Rattle.qvtr_semantics.specs.declared.binding.Binding.{Binding}
use Rattle.qvtr_semantics.specs.Templates.{Values}
use Rattle.qvtr_semantics.specs.Bindings.{Target}
use Rattle.template_match.specs.Search.{values_of}
use Rattle.relation_calls.specs.declared.judging.Judgement.TheVariants.{Known}
use Rattle.relation_calls.specs.declared.outcome.Outcome.{Outcome}
use Rattle.relation_calls.specs.Owing.{IsAnswerOfAny, IsJudged}
use Rattle.relation_calls.specs.Visits.{upto_of}
use Rattle.relation_calls.proofs.OwingLaws.{partners_known, where_owed}
use Rattle.relation_calls.proofs.judging.judge_found.Goals as goal

pub any_partner-requires-clause-linked : goal.any_partner-requires-clause-linked
any_partner-requires-clause-linked c = λ g has. c.requires.linked g (subst (λ (gs : List Binding). Contains (values_of gs) g) c.as_slice.ensures has)

pub returns-in-Some : goal.returns-in-Some
returns-in-Some c = λ b are.
    let v = c.args.visit.now in
    let gs = values_of c.as_slice.result.now in
    let exact : (g : Values) → Contains gs g ↔ Target v.program.now v.models.now v.rel.now b g =
    subst (λ (bs : List Binding). (g : Values) → Contains (values_of bs) g ↔ Target v.program.now v.models.now v.rel.now b g) (sym c.as_slice.ensures) are.exact in
    subst (λ (o : Outcome). IsJudged v.program.now v.models.now (upto_of v) v.rel.now b (Known o c.in-Some.any.height)) (sym c.outcome_with.ensures)
    (partners_known v b gs exact are.matched are.clean c.in-Some.any (subst (λ o. IfSome o (IsAnswerOfAny v gs)) c.in-Some.is c.in_ok-any.ensures))

pub returns-in_ok-calls-in-None : goal.returns-in_ok-calls-in-None
returns-in_ok-calls-in-None c = λ b are.
    let v = c.args.visit.now in
    let partner : (g : Values) → Contains (values_of c.as_slice-in-None.result.now) g → Contains (values_of c.args.gs) g =
    λ g among. subst (λ (gs : List Binding). Contains (values_of gs) g) c.as_slice-in-None.ensures among in (
      λ call has.
          let (g, among, one) = c.in_ok-calls-in-None.ensures call has in
          let among = partner g among in
          where_owed v.program.now v.models.now c.requires.visit.formed (upto_of v) v.plan.now.rel v.rel.now c.requires.visit.planned.found b are.matched g ((are.exact g).0 among)
          (c.requires.linked g among) call one,
      are,
    )
