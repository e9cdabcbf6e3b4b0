use Rattle.std.proofs.Common.{take}
use Rattle.template_match.specs.Search.{values_of}
use Rattle.relation_calls.specs.Seen.{AreClean}
use Rattle.relation_calls.specs.Memos.{IsTold}
use Rattle.relation_calls.specs.Seeds.{IsAloneFromAny, SeenFromAny, IsLeastFound}
use Rattle.relation_calls.proofs.failing.least_from.Given as goal

abbrev pub invariant-loop-seed : goal.invariant-loop-seed
invariant-loop-seed l = record {
  value : IsLeastFound l.visit.rel.now.universal (IsAloneFromAny l.visit (values_of (take l.seed-index l.seeds))) l.least;
  clean : AreClean (SeenFromAny l.visit (values_of (take l.seed-index l.seeds)));
  told : IsTold l.visit.program.now l.visit.models.now l.memo;
}
