use Rattle.std.specs.Prelude.{map}
use Rattle.std.proofs.Common.{◌∙◌}
use Rattle.std.proofs.lemmas.Result.{IfOk-weaker}
use Rattle.repair_semantics.specs.Candidates.{kept_at}
use Rattle.slot_claims.specs.HeldValues.{held_by}
use Rattle.slot_claims.specs.ObjectClaims.{claim_by}
use Rattle.slot_claims.specs.Staying.{is_staying}
use Rattle.slot_claims.proofs.ElementLaws.{contents_are}
use Rattle.slot_claims.proofs.slot_contents.contents.Goals as goal

pub returns : goal.returns
returns c =
    let repair = c.args.repair.now in
    let o = c.args.o.0 in
    let p = c.args.p.0 in
    IfOk-weaker c.with_claimed.result _ _
    (λ found is.
    is
    ∙ contents_are o p (map held_by c.in_ok-kept.kept.items)
    (kept_at repair.program.now repair.target.now (is_staying repair.staying.now) repair.claims.now o p) repair.claims.now
    (map claim_by c.at-claims.result.now)
    c.at-claims.ensures.sorted c.in_ok-kept.ensures c.at-claims.ensures.there)
    c.with_claimed.ensures
