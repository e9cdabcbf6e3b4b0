use Rattle.std.specs.Prelude.{not}
use Rattle.std.specs.List.{list_any}
use Rattle.std.proofs.Common.{◌≡◌, map, drop}
use Rattle.repair_semantics.specs.Claims.{same_said}
use Rattle.repair_semantics.specs.Images.{same_number}
use Rattle.slot_claims.specs.ObjectClaims.{said_by, claim_by}
use Rattle.slot_claims.proofs.claim_table.is_one_other.Given as goal

abbrev pub invariant-loop-claim : goal.invariant-loop-claim
invariant-loop-claim l =
    list_any (λ c. not (same_said same_number (said_by l.said) c.said)) (map claim_by (drop l.claim-index l.claims))
    ≡ list_any (λ c. not (same_said same_number (said_by l.said) c.said)) (map claim_by l.claims)
