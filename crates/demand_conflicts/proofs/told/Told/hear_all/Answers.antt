use Rattle.std.specs.Prelude.{◌++◌, map, take}
use Rattle.std.proofs.Common.{subst, arith}
use Rattle.demand_conflicts.specs.contracts.claims.NumberedSpotOrd.TheImpl.{ghosts}
use Rattle.demand_conflicts.specs.NumberedClaims.{claim_by}
use Rattle.demand_conflicts.specs.Heard.{heard_by, IsHeardWith}
use Rattle.demand_conflicts.proofs.TableLaws.{opposed_there}
use Rattle.demand_conflicts.proofs.told.Told.hear_all.Goals as goal

pub returns-in-Some : goal.returns-in-Some
returns-in-Some c = λ heard known.
    let claims = c.args.claims.now in
    let place = c.loop-claim.claim-index in
    let claim = c.claim-item.result in
    let upto = heard ++ heard_by c.args.demand (map claim_by (take place claims)) in
    opposed_there heard c.args.demand claims place claim c.in-Some.first (omega arith) c.claim-item.is
    (subst (IsHeardWith ghosts.cmp upto c.args.demand (claim_by claim) c.hear.new.self.firsts) c.in-Some.is (c.in_ok-first.ensures upto (c.loop-claim.invariant heard known)))
