use Rattle.template_match.specs.Search.{values_of}
use Rattle.relation_calls.specs.Frames.{SeenByBindings}
use Rattle.relation_calls.specs.Visits.{upto_of}
use Rattle.relation_calls.proofs.FrameLaws.{no_progress, no_frames, all_clean}
use Rattle.relation_calls.proofs.asking.outcomes_of.Goals as goal

pub search-requires-clause-progress : goal.search-requires-clause-progress
search-requires-clause-progress c =
    let v = c.args.visit.now in
    no_progress v.program.now v.models.now (upto_of v) v.rel.now c.args.bs.now c.new-progress.result c.new-progress.ensures.outcomes c.new-progress.ensures.owed c.new-progress.ensures.height c.new-progress.ensures.partners

pub search-requires-clause-frames : goal.search-requires-clause-frames
search-requires-clause-frames c =
    let v = c.args.visit.now in
    no_frames v.program.now v.models.now (SeenByBindings v.program.now v.models.now (upto_of v) v.rel.now (values_of c.args.bs.now)) c.new-frames.result c.new-frames.ensures

pub returns-clause-clean : goal.returns-clause-clean
returns-clause-clean c =
    let v = c.args.visit.now in
    all_clean v.program.now v.models.now (upto_of v) v.rel.now c.args.bs.now c.search.new.progress c.in_ok-search.ensures.progress c.in_ok-search.ensures.finished
