use Rattle.std.proofs.Common.{ℕ, ◌<◌, List, length, ltb-true, sym, subst}
use Rattle.std.specs.Prelude.{Contains}
use Rattle.std.proofs.lemmas.Result.{err_from_is_err_and}
use Rattle.template_match.specs.Search.{values_of}
use Rattle.relation_calls.specs.declared.clause_call.ClauseCall.{ClauseCall}
use Rattle.relation_calls.specs.Faults.{IsFault}
use Rattle.relation_calls.specs.Frames.{SeenByBindings}
use Rattle.relation_calls.specs.Names.{call_named}
use Rattle.relation_calls.specs.Owing.{SeenByCall}
use Rattle.relation_calls.specs.Visits.{upto_of}
use Rattle.relation_calls.proofs.FrameLaws.{some_frame_in}
use Rattle.relation_calls.proofs.ListLaws.{item_of}
use Rattle.relation_calls.proofs.VisitLaws.{ends_with, fault_in}
use Rattle.relation_calls.proofs.stepping.step.Goals as goal

pub returns-in_err-begun-in-Some-clause-fault : goal.returns-in_err-begun-in-Some-clause-fault
returns-in_err-begun-in-Some-clause-fault c =
    let v = c.args.visit.now in
    let call = c.in-Some.call.now in
    let at : ℕ = c.args.progress.now.asked in
    let within : at < length c.as_slice.result.now = ltb-true at (length c.as_slice.result.now) (sym c.in-Some.ensures.lookup.0) in
    let has = subst (λ (cs : List ClauseCall). Contains cs call) c.as_slice.ensures (item_of c.as_slice.result.now at call within c.in-Some.ensures.lookup.1) in
    let owed = c.requires.progress.owed call has in
    let some = SeenByCall v.program.now v.models.now (upto_of v) call.clause (call_named call.name) in
    let all = SeenByBindings v.program.now v.models.now (upto_of v) v.rel.now (values_of c.args.bs.now) in
    let e = c.in_err-begun-in-Some.field-0.0 in
    let p = err_from_is_err_and c.from_residual.result c.from_residual.ensures.1 in
    ends_with (IsFault all) c.from_residual.result e p.0 p.1 (cc p.2) (fault_in some all owed.seen e c.in_err-begun-in-Some.ensures.fault)

pub returns-in_ok-begun-in-Some-clause-begun : goal.returns-in_ok-begun-in-Some-clause-begun
returns-in_ok-begun-in-Some-clause-begun c =
    let v = c.args.visit.now in
    let call = c.in-Some.call.now in
    let at : ℕ = c.args.progress.now.asked in
    let within : at < length c.as_slice.result.now = ltb-true at (length c.as_slice.result.now) (sym c.in-Some.ensures.lookup.0) in
    let has = subst (λ (cs : List ClauseCall). Contains cs call) c.as_slice.ensures (item_of c.as_slice.result.now at call within c.in-Some.ensures.lookup.1) in
    let owed = c.requires.progress.owed call has in
    let some = SeenByCall v.program.now v.models.now (upto_of v) call.clause (call_named call.name) in
    let all = SeenByBindings v.program.now v.models.now (upto_of v) v.rel.now (values_of c.args.bs.now) in
    some_frame_in v.program.now v.models.now some all owed.seen c.in_ok-begun-in-Some.begun c.in_ok-begun-in-Some.ensures.begun
