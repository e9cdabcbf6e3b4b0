use Rattle.std.proofs.lemmas.Result.{IfErr-weaker, on_ok_weaker}
use Rattle.template_match.specs.Search.{values_of}
use Rattle.relation_calls.specs.Faults.{IsFault}
use Rattle.relation_calls.specs.Frames.{SeenByBindings, SeenByFrame}
use Rattle.relation_calls.specs.Visits.{upto_of}
use Rattle.relation_calls.proofs.FrameLaws.{last_in, frames_resumed}
use Rattle.relation_calls.proofs.VisitLaws.{fault_in}
use Rattle.relation_calls.proofs.stepping.go_on.Goals as goal

pub resume-requires-clause-frame : goal.resume-requires-clause-frame
resume-requires-clause-frame c =
    let v = c.args.visit.now in
    (last_in v.program.now v.models.now (SeenByBindings v.program.now v.models.now (upto_of v) v.rel.now (values_of c.args.bs.now)) c.args.frames.now c.pop.new.self c.in-Some.last c.in-Some.ensures c.requires.frames).frame

pub returns-in-Some-clause-frames : goal.returns-in-Some-clause-frames
returns-in-Some-clause-frames c =
    let v = c.args.visit.now in
    on_ok_weaker c.resume.result (frames_resumed v.program.now v.models.now (SeenByBindings v.program.now v.models.now (upto_of v) v.rel.now (values_of c.args.bs.now)) c.args.frames.now c.pop.new.self c.in-Some.last c.in-Some.ensures c.requires.frames c.resume.new.frames)
    c.resume.ensures.frames

pub returns-in-Some-clause-fault : goal.returns-in-Some-clause-fault
returns-in-Some-clause-fault c =
    let v = c.args.visit.now in
    let all = SeenByBindings v.program.now v.models.now (upto_of v) v.rel.now (values_of c.args.bs.now) in
    let some = SeenByFrame v.program.now v.models.now c.in-Some.last in
    IfErr-weaker c.resume.result (IsFault some) (IsFault all)
    (fault_in some all (last_in v.program.now v.models.now all c.args.frames.now c.pop.new.self c.in-Some.last c.in-Some.ensures c.requires.frames).seen) c.resume.ensures.fault
