use Rattle.std.proofs.Common.{◌∙◌}
use Rattle.slot_claims.specs.ObjectClaims.{spot_by, said_by, claim_by}
use Rattle.std.specs.Prelude.{map}
use Rattle.slot_claims.proofs.AgainstLaws.{otherwise_there}
use Rattle.slot_claims.proofs.claim_table.ClaimTable.says_otherwise.Goals as goal

pub returns : goal.returns
returns c =
    c.is_one_other.ensures
    ∙ otherwise_there (spot_by c.args.spot) (said_by c.args.said) c.args.self.now (map claim_by c.at.result.now) c.at.ensures.there
