use Rattle.std.proofs.Common.{◌≡◌, ◌∙◌}
use Rattle.object_tables.specs.Ids.{object_ids}
use Rattle.object_tables.specs.Models.{partners_at}
use Rattle.term_images.proofs.HeldLaws.{all_read}
use Rattle.term_images.proofs.held.read_partners.Goals as goal

pub returns : goal.returns
returns c =
    let partners = partners_at c.args.model.now c.args.object.0 c.args.prop.0 in
    let all = c.into_iter-partner-iterator.result in
    let whole : all ≡ object_ids partners = c.into_iter-partner-iterator.ensures.into_iter_gives ∙ c.partners-partner-items.ensures.list in
    all_read partners c.loop-partner.read c.loop-partner.partner-iterator all whole c.in-None.ensures.steps.0 c.loop-partner.invariant
