use Rattle.std.proofs.Common.{◌≡◌, ◌∙◌, ap, subst}
use Rattle.std.specs.Prelude.{OnOk}
use Rattle.qvtr_semantics.specs.Calls.{calls_of}
use Rattle.relation_calls.specs.declared.clause_call.Clause.TheVariants.{Where}
use Rattle.relation_calls.specs.Names.{calls_named}
use Rattle.relation_calls.specs.Owing.{IsCallIn}
use Rattle.relation_calls.specs.Visits.{wheres_of}
use Rattle.relation_calls.proofs.OwingLaws.{AreAdded}
use Rattle.relation_calls.proofs.judging.add_partner_calls.Goals as goal

pub returns : goal.returns
returns c =
    let v = c.args.visit.now in
    let same : calls_named c.as_slice-2.result.now ≡ wheres_of v c.args.g.now.values = ap calls_named c.as_slice-2.ensures ∙ c.in_ok-calls.ensures ∙ ap (calls_of v.program.now v.models.now c.args.g.now.values) c.as_slice.ensures in
    subst (λ cs. OnOk c.add_calls.result (AreAdded (IsCallIn Where cs) c.args.owed.now c.add_calls.new.owed)) same c.add_calls.ensures
