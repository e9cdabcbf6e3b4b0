use Rattle.std.proofs.Common.{◌≡◌, ◌∙◌, sym, ap, subst}
use Rattle.std.specs.Prelude.{IfOk, IfSome}
use Rattle.qvtr_semantics.specs.Calls.{calls_of}
use Rattle.relation_calls.specs.declared.clause_call.Clause.TheVariants.{Where}
use Rattle.relation_calls.specs.Names.{calls_named}
use Rattle.relation_calls.specs.Owing.{MayAllFollow, IsAnswer}
use Rattle.relation_calls.specs.Visits.{upto_of, wheres_of}
use Rattle.relation_calls.proofs.judging.is_partner.Goals as goal

pub all_answers-requires-clause-follow : goal.all_answers-requires-clause-follow
all_answers-requires-clause-follow c =
    let v = c.args.visit.now in
    let same : calls_named c.as_slice-2.result.now ≡ wheres_of v c.args.g.now.values = ap calls_named c.as_slice-2.ensures ∙ c.in_ok-calls.ensures ∙ ap (calls_of v.program.now v.models.now c.args.g.now.values) c.as_slice.ensures in
    subst (MayAllFollow v.program.now v.models.now (upto_of v) Where) (sym same) c.requires.linked

pub returns : goal.returns
returns c =
    let v = c.args.visit.now in
    let same : calls_named c.as_slice-2.result.now ≡ wheres_of v c.args.g.now.values = ap calls_named c.as_slice-2.ensures ∙ c.in_ok-calls.ensures ∙ ap (calls_of v.program.now v.models.now c.args.g.now.values) c.as_slice.ensures in
    subst (λ cs. IfOk c.all_answers.result (λ o. IfSome o (IsAnswer v.program.now v.models.now (upto_of v) Where cs))) same c.all_answers.ensures
