use Rattle.std.proofs.Common.{◌≡◌, ◌∙◌, List, Option, ap, subst}
use Rattle.std.specs.Prelude.{IfSome}
use Rattle.std.proofs.lemmas.Result.{IfOk-weaker}
use Rattle.qvtr_semantics.specs.declared.binding.Binding.{Binding}
use Rattle.qvtr_semantics.specs.Calls.{calls_of}
use Rattle.relation_calls.specs.declared.clause_call.Clause.TheVariants.{When}
use Rattle.relation_calls.specs.Names.{calls_named}
use Rattle.template_match.specs.Search.{values_of}
use Rattle.relation_calls.specs.Owing.{IsCallIn, ArePartners}
use Rattle.relation_calls.specs.Visits.{upto_of, whens_of}
use Rattle.relation_calls.proofs.OwingLaws.{when_owed}
use Rattle.relation_calls.proofs.judging.judge.Goals as goal

pub judge_found-requires-clause-linked : goal.judge_found-requires-clause-linked
judge_found-requires-clause-linked c = λ g has.
    let are = subst (λ (o : Option (List Binding)). IfSome o (λ gs. ArePartners c.args.visit.now.program.now c.args.visit.now.models.now (upto_of c.args.visit.now) c.args.visit.now.rel.now c.args.b.now.values (values_of gs))) c.in-Some.is c.requires.partners in
    c.requires.linked are.matched g ((are.exact g).0 has)

pub returns-in-Some : goal.returns-in-Some
returns-in-Some c =
    let are = subst (λ (o : Option (List Binding)). IfSome o (λ gs. ArePartners c.args.visit.now.program.now c.args.visit.now.models.now (upto_of c.args.visit.now) c.args.visit.now.rel.now c.args.b.now.values (values_of gs))) c.in-Some.is c.requires.partners in
    IfOk-weaker c.judge_found.result _ _ (λ j judged. judged c.args.b.now.values are) c.judge_found.ensures

pub all_answers-requires-clause-follow : goal.all_answers-requires-clause-follow
all_answers-requires-clause-follow c = λ d has. tt

pub returns : goal.returns
returns c =
    let v = c.args.visit.now in
    let b = c.args.b.now.values in
    let same : calls_named c.as_slice-in-None.result.now ≡ whens_of v b = ap calls_named c.as_slice-in-None.ensures ∙ c.in_ok-calls.ensures ∙ ap (calls_of v.program.now v.models.now b) c.as_slice.ensures in (
      λ call has.
          when_owed v.program.now v.models.now c.requires.visit.formed (upto_of v) v.plan.now.rel v.rel.now c.requires.visit.planned.found b call
          (subst (λ cs. IsCallIn When cs call) same (c.in_ok-when_calls-in-None.ensures call has)),
      tt,
    )
