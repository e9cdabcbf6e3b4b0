use Rattle.std.proofs.Common.{◌<◌, List, length, sym, subst}
use Rattle.std.proofs.lemmas.Option.{slice_get_within}
use Rattle.std.proofs.lemmas.Result.{IfOk-weaker, IfErr-weaker, on_ok_weaker}
use Rattle.qv_syntax.specs.declared.program.Rel.{Rel}
use Rattle.template_match.specs.Search.{values_of}
use Rattle.relation_calls.specs.Faults.{IsFault}
use Rattle.relation_calls.specs.Frames.{SeenByBindings, SeenByFrame}
use Rattle.relation_calls.specs.Names.{chain_named}
use Rattle.relation_calls.proofs.AskingLaws.{visited}
use Rattle.relation_calls.proofs.FrameLaws.{plan_found, planned_here, chain_here, sources_here, linked_here, progress_here, seen_here, frame_after, some_frame_in}
use Rattle.relation_calls.proofs.VisitLaws.{fault_in}
use Rattle.relation_calls.proofs.stepping.step_frame.Goals as goal

pub bounds-as_slice-last : goal.bounds-as_slice-last
bounds-as_slice-last c =
    let p = c.args.visit.now.program.now in
    let f = c.args.last.now in
    subst (λ (rs : List Rel). f.plan.rel < length rs) (sym c.as_slice.ensures) (slice_get_within p.rels f.plan.rel c.requires.frame.rel (plan_found p c.args.visit.now.models.now f c.requires.frame))

pub step-requires-clause-visit : goal.step-requires-clause-visit
step-requires-clause-visit c =
    let v = c.args.visit.now in
    let f = c.args.last.now in
    let is = c.requires.frame in
    let r = c.index-as_slice-last.result in
    let at = visited v.program.now f.plan.rel is.rel r c.as_slice.result.now c.as_slice.ensures (plan_found v.program.now v.models.now f is) c.index-as_slice-last.is in
    record {
      formed = c.requires.visit.formed;
      planned = planned_here v.program.now v.models.now f is r at c.as_slice-2.result.now c.as_slice-2.ensures c.as_slice-3.result.now c.as_slice-3.ensures;
      chain = chain_here v.program.now v.models.now f is r at c.as_slice-2.result.now c.as_slice-2.ensures c.as_slice-3.result.now c.as_slice-3.ensures;
    }

pub step-requires-clause-sources : goal.step-requires-clause-sources
step-requires-clause-sources c =
    let v = c.args.visit.now in
    let f = c.args.last.now in
    let is = c.requires.frame in
    let r = c.index-as_slice-last.result in
    let at = visited v.program.now f.plan.rel is.rel r c.as_slice.result.now c.as_slice.ensures (plan_found v.program.now v.models.now f is) c.index-as_slice-last.is in
    sources_here v.program.now v.models.now f is r at c.as_slice-2.result.now c.as_slice-2.ensures c.as_slice-3.result.now c.as_slice-3.ensures

pub step-requires-clause-linked : goal.step-requires-clause-linked
step-requires-clause-linked c =
    let v = c.args.visit.now in
    let f = c.args.last.now in
    let is = c.requires.frame in
    let r = c.index-as_slice-last.result in
    let at = visited v.program.now f.plan.rel is.rel r c.as_slice.result.now c.as_slice.ensures (plan_found v.program.now v.models.now f is) c.index-as_slice-last.is in
    linked_here v.program.now v.models.now f is r at c.as_slice-2.result.now c.as_slice-2.ensures c.as_slice-3.result.now c.as_slice-3.ensures

pub step-requires-clause-progress : goal.step-requires-clause-progress
step-requires-clause-progress c =
    let v = c.args.visit.now in
    let f = c.args.last.now in
    let is = c.requires.frame in
    let r = c.index-as_slice-last.result in
    let at = visited v.program.now f.plan.rel is.rel r c.as_slice.result.now c.as_slice.ensures (plan_found v.program.now v.models.now f is) c.index-as_slice-last.is in
    progress_here v.program.now v.models.now f is r at c.as_slice-2.result.now c.as_slice-2.ensures c.as_slice-3.result.now c.as_slice-3.ensures

pub returns-clause-frame : goal.returns-clause-frame
returns-clause-frame c =
    let v = c.args.visit.now in
    let f = c.args.last.now in
    let is = c.requires.frame in
    let r = c.index-as_slice-last.result in
    let at = visited v.program.now f.plan.rel is.rel r c.as_slice.result.now c.as_slice.ensures (plan_found v.program.now v.models.now f is) c.index-as_slice-last.is in
    on_ok_weaker c.step.result (frame_after v.program.now v.models.now f is r at c.as_slice-2.result.now c.as_slice-2.ensures c.as_slice-3.result.now c.as_slice-3.ensures c.step.new.progress) c.step.ensures.progress

pub returns-clause-begun : goal.returns-clause-begun
returns-clause-begun c =
    let v = c.args.visit.now in
    let f = c.args.last.now in
    let is = c.requires.frame in
    let r = c.index-as_slice-last.result in
    let at = visited v.program.now f.plan.rel is.rel r c.as_slice.result.now c.as_slice.ensures (plan_found v.program.now v.models.now f is) c.index-as_slice-last.is in
    IfOk-weaker c.step.result _ _ (some_frame_in v.program.now v.models.now (SeenByBindings v.program.now v.models.now (chain_named c.as_slice-2.result.now) r (values_of c.as_slice-3.result.now)) (SeenByFrame v.program.now v.models.now f)
    (seen_here v.program.now v.models.now f is r at c.as_slice-2.result.now c.as_slice-2.ensures c.as_slice-3.result.now c.as_slice-3.ensures)) c.step.ensures.begun

pub returns-clause-fault : goal.returns-clause-fault
returns-clause-fault c =
    let v = c.args.visit.now in
    let f = c.args.last.now in
    let is = c.requires.frame in
    let r = c.index-as_slice-last.result in
    let at = visited v.program.now f.plan.rel is.rel r c.as_slice.result.now c.as_slice.ensures (plan_found v.program.now v.models.now f is) c.index-as_slice-last.is in
    IfErr-weaker c.step.result (IsFault (SeenByBindings v.program.now v.models.now (chain_named c.as_slice-2.result.now) r (values_of c.as_slice-3.result.now))) (IsFault (SeenByFrame v.program.now v.models.now f)) (fault_in (SeenByBindings v.program.now v.models.now (chain_named c.as_slice-2.result.now) r (values_of c.as_slice-3.result.now)) (SeenByFrame v.program.now v.models.now f)
    (seen_here v.program.now v.models.now f is r at c.as_slice-2.result.now c.as_slice-2.ensures c.as_slice-3.result.now c.as_slice-3.ensures)) c.step.ensures.fault
