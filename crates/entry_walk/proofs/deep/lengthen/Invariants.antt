use Rattle.std.proofs.Common.{◌≡◌, ◌<◌, ◌≤◌, ◌+◌, ◌-◌, ◌++◌, List, suc, length}
use Rattle.qvtr_semantics.specs.declared.limits.TheConstants.{MAX_CALLS}
use Rattle.entry_making.specs.declared.numbered_call.NumberedCall.{NumberedCall}
use Rattle.entry_walk.specs.FinishedTables.{height_in, IsWay}
use Rattle.entry_walk.proofs.deep.lengthen.Given as goal

abbrev pub invariant-loop-alloc : goal.invariant-loop-alloc
invariant-loop-alloc l = record {
  way : (more : List NumberedCall) × (l.chain ≡ l.fn.chain ++ more) × IsWay l.finished l.fn.place more l.at;
  short : length l.chain ≤ suc MAX_CALLS;
  high : MAX_CALLS < length l.chain + height_in l.finished l.at;
}

abbrev pub decreases-loop-alloc : goal.decreases-loop-alloc
decreases-loop-alloc l = suc MAX_CALLS - length l.chain
