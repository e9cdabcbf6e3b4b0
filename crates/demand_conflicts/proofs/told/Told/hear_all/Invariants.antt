use Rattle.std.specs.Prelude.{List, ◌++◌, map, take}
use Rattle.demand_conflicts.specs.contracts.claims.NumberedSpotOrd.TheImpl.{ghosts}
use Rattle.demand_conflicts.specs.NumberedClaims.{claim_by}
use Rattle.demand_conflicts.specs.Heard.{HeardClaim, heard_by, IsHeard}
use Rattle.demand_conflicts.proofs.told.Told.hear_all.Given as goal

abbrev pub invariant-loop-claim : goal.invariant-loop-claim
invariant-loop-claim l =
    (heard : List HeardClaim) → IsHeard ghosts.cmp heard l.fn.self.firsts → IsHeard ghosts.cmp (heard ++ heard_by l.demand (map claim_by (take l.claim-index l.claims))) l.self.firsts
