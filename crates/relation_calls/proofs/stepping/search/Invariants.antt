use Rattle.template_match.specs.Search.{values_of}
use Rattle.relation_calls.specs.Frames.{IsProgress, AreFramesIn, SeenByBindings}
use Rattle.relation_calls.specs.Memos.{IsTold}
use Rattle.relation_calls.specs.Visits.{upto_of}
use Rattle.relation_calls.proofs.stepping.search.Given as goal

abbrev pub invariant-loop : goal.invariant-loop
invariant-loop l = record {
  progress : IsProgress l.visit.program.now l.visit.models.now (upto_of l.visit) l.visit.rel.now l.bs l.progress;
  frames : AreFramesIn l.visit.program.now l.visit.models.now (SeenByBindings l.visit.program.now l.visit.models.now (upto_of l.visit) l.visit.rel.now (values_of l.bs)) l.frames;
  told : IsTold l.visit.program.now l.visit.models.now l.memo;
}
