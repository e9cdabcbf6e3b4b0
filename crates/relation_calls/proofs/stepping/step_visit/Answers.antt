use Rattle.template_match.specs.Search.{values_of}
use Rattle.relation_calls.specs.Frames.{SeenByBindings}
use Rattle.relation_calls.specs.Visits.{upto_of}
use Rattle.relation_calls.proofs.FrameLaws.{frames_pushed}
use Rattle.relation_calls.proofs.stepping.step_visit.Goals as goal

pub returns-clause-frames : goal.returns-clause-frames
returns-clause-frames c =
    let v = c.args.visit.now in
    frames_pushed v.program.now v.models.now (SeenByBindings v.program.now v.models.now (upto_of v) v.rel.now (values_of c.args.bs.now)) c.args.frames.now c.push_begun.new.frames c.in_ok-begun.begun c.in_ok-push_begun.ensures c.requires.frames c.in_ok-begun.ensures.begun
