use Rattle.std.proofs.Common.{◌≡◌, map, take}
use Rattle.repair_semantics.specs.Candidates.{others_than}
use Rattle.slot_claims.specs.HeldValues.{held_by, element_by}
use Rattle.slot_claims.specs.ObjectClaims.{claim_by, elements_in}
use Rattle.slot_claims.proofs.added.others.Given as goal

abbrev pub invariant-loop-claim : goal.invariant-loop-claim
invariant-loop-claim l = map held_by l.found ≡ others_than (map element_by l.sorted) (elements_in (map claim_by (take l.claim-index l.claims)))
