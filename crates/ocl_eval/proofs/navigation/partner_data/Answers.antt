use Rattle.std.proofs.Common.{◌≡◌, ◌∙◌}
use Rattle.object_tables.specs.Ids.{object_ids}
use Rattle.object_tables.specs.Models.{partners_at}
use Rattle.ocl_eval.proofs.NavigationLaws.{all_found}
use Rattle.ocl_eval.proofs.navigation.partner_data.Goals as goal

pub returns : goal.returns
returns c =
    let whole : c.into_iter-partner-iterator.result ≡ object_ids (partners_at c.args.model.now c.args.object.0 c.args.prop.0) = c.into_iter-partner-iterator.ensures.into_iter_gives ∙ c.partners-partner-items.ensures.list in
    all_found c.args.number (partners_at c.args.model.now c.args.object.0 c.args.prop.0) c.loop-partner.found c.loop-partner.partner-iterator c.into_iter-partner-iterator.result
    whole c.in-None.ensures.steps.0 c.loop-partner.invariant
