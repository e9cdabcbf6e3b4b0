use Rattle.std.proofs.Common.{◌<◌, arith, length, inl, inr}
use Rattle.std.specs.Prelude.{Contains}
use Rattle.qvtr_semantics.specs.Templates.{Values}
use Rattle.template_match.specs.Search.{values_of}
use Rattle.relation_calls.specs.declared.clause_call.ClauseCall.{ClauseCall}
use Rattle.relation_calls.specs.declared.clause_call.Clause.TheVariants.{Where}
use Rattle.relation_calls.specs.Owing.{IsCallIn}
use Rattle.relation_calls.specs.Visits.{wheres_of}
use Rattle.relation_calls.proofs.OwingLaws.{no_call}
use Rattle.relation_calls.proofs.StepLaws.{value_here}
use Rattle.relation_calls.proofs.judging.partner_calls.Goals as goal

pub loop-g-init : goal.loop-g-init
loop-g-init c = no_call c.new-owed.result c.new-owed.ensures (λ (call : ClauseCall). (g : Values) × Contains (values_of c.args.gs.now) g × IsCallIn Where (wheres_of c.args.visit.now g) call)

pub loop-g-preserved : goal.loop-g-preserved
loop-g-preserved c = λ call has.
    let within : c.loop-g.g-index < length c.args.gs.now = omega arith in
    elim (c.in_ok-add_partner_calls.ensures call has) [
      | inl h ↦ c.loop-g.invariant call h
      | inr one ↦ (c.g-item.result.values, value_here c.args.gs.now c.loop-g.g-index c.g-item.result within c.g-item.is, one)
    ]
