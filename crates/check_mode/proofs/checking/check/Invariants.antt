use Rattle.relation_calls.specs.Seen.{AreClean}
use Rattle.relation_calls.specs.Memos.{IsTold}
use Rattle.check_mode.specs.Verdicts.{IsVerdictOf, ChainOfTops}
use Rattle.check_mode.proofs.checking.check.Given as goal

-- of the relations so far
abbrev pub invariant-loop-number : goal.invariant-loop-number
invariant-loop-number l = record {
  value : IsVerdictOf l.program l.models l.number l.verdict;
  clean : AreClean (ChainOfTops l.program l.models l.number);
  told : IsTold l.program l.models l.memo;
}
