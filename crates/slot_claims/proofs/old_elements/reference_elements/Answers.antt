use Rattle.std.proofs.Common.{◌≡◌, ◌∙◌}
use Rattle.object_tables.specs.Ids.{object_ids}
use Rattle.object_tables.specs.Models.{partners_at}
use Rattle.slot_claims.proofs.OldLaws.{all_found}
use Rattle.slot_claims.proofs.old_elements.reference_elements.Goals as goal

pub returns : goal.returns
returns c =
    let whole : c.into_iter-partner-iterator.result ≡ object_ids (partners_at c.args.target.now c.args.o.0 c.args.p.0) =
    c.into_iter-partner-iterator.ensures.into_iter_gives ∙ c.partners-partner-items.ensures.list in
    all_found (partners_at c.args.target.now c.args.o.0 c.args.p.0)
    c.loop-partner.found c.loop-partner.partner-iterator c.into_iter-partner-iterator.result
    whole c.in-None.ensures.steps.0 c.loop-partner.invariant
