use Rattle.std.proofs.Common.{◌≡◌, ◌+◌, suc, arith, subst}
use Rattle.std.proofs.lemmas.Result.{err_from_is_err_and}
use Rattle.qvtr_semantics.specs.Chains.{Chain}
use Rattle.relation_calls.specs.Seen.{AreClean}
use Rattle.relation_calls.specs.Faults.{IsFault}
use Rattle.relation_calls.proofs.VisitLaws.{ends_with}
use Rattle.check_mode.specs.Verdicts.{IsVerdictOf, ChainOfTops}
use Rattle.check_mode.proofs.TopLaws.{no_tops, more_tops, all_tops, top_fault, no_verdict, whole}
use Rattle.check_mode.proofs.checking.check.Goals as goal

pub loop-number-init : goal.loop-number-init
loop-number-init c = record {
  value = no_verdict c.args.program.now c.args.models.now;
  clean = no_tops c.args.program.now c.args.models.now;
  told = c.new-memo.ensures c.args.program.now c.args.models.now;
}

pub loop-number-preserved : goal.loop-number-preserved
loop-number-preserved c =
    let p = c.args.program.now in
    let m = c.args.models.now in
    let next : suc c.loop-number.number ≡ c.loop-number.number + 1 = omega arith in
    record {
      value = subst (λ k. IsVerdictOf p m k c.with_relation-verdict.result) next (c.with_relation-verdict.ensures p m c.loop-number.invariant.value c.in_ok-failing.ensures.value);
      clean = subst (λ k. AreClean (ChainOfTops p m k)) next (more_tops p m c.loop-number.number c.loop-number.invariant.clean c.in_ok-failing.ensures.clean);
      told = c.in_ok-failing.ensures.told;
    }

pub returns-in_err-failing-clause-fault : goal.returns-in_err-failing-clause-fault
returns-in_err-failing-clause-fault c =
    let e = c.in_err-failing.field-0.0 in
    let p = err_from_is_err_and c.from_residual.result c.from_residual.ensures.1 in
    ends_with (IsFault (Chain c.args.program.now c.args.models.now)) c.from_residual.result e p.0 p.1 (cc p.2)
    (top_fault c.args.program.now c.args.models.now c.loop-number.number e c.in_err-failing.ensures.fault)

pub returns-clause-value : goal.returns-clause-value
returns-clause-value c = whole c.args.program.now c.args.models.now c.loop-number.number c.loop-number.verdict (omega (arith, c.len-count.ensures)) c.loop-number.invariant.value

pub returns-clause-clean : goal.returns-clause-clean
returns-clause-clean c = all_tops c.args.program.now c.args.models.now c.loop-number.number (omega (arith, c.len-count.ensures)) c.loop-number.invariant.clean
