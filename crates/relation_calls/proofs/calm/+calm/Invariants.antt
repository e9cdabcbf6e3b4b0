use Rattle.std.proofs.Common.{◌+◌, ◌*◌, ◌≤◌, suc, take}
use Rattle.qvtr_semantics.specs.declared.limits.TheConstants.{MAX_CALLS}
use Rattle.relation_calls.specs.Calm.{CallCalm}
use Rattle.relation_calls.specs.Memos.{IsTold}
use Rattle.relation_calls.proofs.calm.+calm.Given as goal

abbrev pub decreases-height_anew : goal.decreases-height_anew
decreases-height_anew l = 10 * l.depth + 2

abbrev pub decreases-height_kept : goal.decreases-height_kept
decreases-height_kept l = 10 * l.depth + 3

abbrev pub decreases-height_of : goal.decreases-height_of
decreases-height_of l = 10 * l.depth + 4

abbrev pub decreases-height_at : goal.decreases-height_at
decreases-height_at l = 10 * l.depth + 7

abbrev pub decreases-height_in : goal.decreases-height_in
decreases-height_in l = 10 * l.depth + 8

abbrev pub decreases-height_by : goal.decreases-height_by
decreases-height_by l = 10 * l.depth + 9

abbrev pub invariant-height_in-loop-conjunct : goal.invariant-height_in-loop-conjunct
invariant-height_in-loop-conjunct l = record {
  few : l.longest ≤ suc MAX_CALLS;
  calm : CallCalm l.visit.program.now l.longest (take l.conjunct-index l.clause);
  told : IsTold l.visit.program.now l.visit.models.now l.memo;
}
