use Rattle.std.specs.Prelude.{◌≡◌, Some, None}
use Rattle.std.specs.BTreeMap.{get}
use Rattle.std.proofs.Common.{sym, ◌∙◌, rules}
use Rattle.demand_conflicts.specs.contracts.claims.NumberedSpotOrd.TheImpl.{ghosts}
use Rattle.demand_conflicts.specs.NumberedClaims.{said_by}
use Rattle.demand_conflicts.proofs.SaidLaws.{number_said_is}
use Rattle.demand_conflicts.proofs.SpotOrderLaws.{one_spot}
use Rattle.demand_conflicts.proofs.TableLaws.{heard_again, heard_first, said_otherwise}
use Rattle.demand_conflicts.proofs.told.Told.hear.Goals as goal

pub returns-then-is_same_said : goal.returns-then-is_same_said
returns-then-is_same_said c = λ heard known.
    let claim = c.args.claim in
    let first = c.in-Some.first in
    let at : get ghosts.cmp c.args.self.now.firsts claim.spot ≡ Some first = search rules in
    heard_again ghosts.cmp heard c.args.self.now.firsts known c.args.demand claim.spot (said_by claim.said) first at (number_said_is (said_by first.said) (said_by claim.said) (search rules))

pub returns-else-is_same_said : goal.returns-else-is_same_said
returns-else-is_same_said c = λ heard known.
    let claim = c.args.claim in
    let first = c.in-Some.first in
    let at : get ghosts.cmp c.args.self.now.firsts claim.spot ≡ Some first = search rules in
    said_otherwise ghosts.cmp heard c.args.self.now.firsts known claim.spot (said_by claim.said) first at (sym c.is_same_said.ensures ∙ c.if-is_same_said.false)

pub returns-in_ok-insert-in-None : goal.returns-in_ok-insert-in-None
returns-in_ok-insert-in-None c = λ heard known.
    let claim = c.args.claim in
    let absent : get ghosts.cmp c.args.self.now.firsts claim.spot ≡ None = search rules in
    heard_first ghosts.cmp one_spot heard c.args.self.now.firsts c.insert.new.self known claim.spot (record { said = claim.said; demand = c.args.demand }) absent c.in_ok-insert-in-None.ensures.updates
