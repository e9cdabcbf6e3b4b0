use Rattle.std.specs.Prelude.{take}
use Rattle.demand_conflicts.specs.contracts.claims.NumberedSpotOrd.TheImpl.{ghosts}
use Rattle.demand_conflicts.specs.Heard.{IsHeard}
use Rattle.demand_conflicts.specs.NumberedConflicts.{heard_from}
use Rattle.demand_conflicts.proofs.conflict.numbered_conflict.Given as goal

abbrev pub invariant-loop-place : goal.invariant-loop-place
invariant-loop-place l = IsHeard ghosts.cmp (heard_from l.meta 0 (take l.place l.demands)) l.told.firsts
