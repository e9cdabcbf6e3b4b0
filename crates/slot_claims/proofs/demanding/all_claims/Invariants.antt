use Rattle.std.proofs.Common.{◌≡◌, map, take}
use Rattle.slot_claims.specs.ObjectClaims.{claim_by}
use Rattle.slot_claims.specs.DemandClaims.{all_claims}
use Rattle.slot_claims.proofs.demanding.all_claims.Given as goal

abbrev pub invariant-loop-demand : goal.invariant-loop-demand
invariant-loop-demand l = map claim_by l.claims.items ≡ all_claims l.meta l.numbers (take l.demand-index l.demands)
