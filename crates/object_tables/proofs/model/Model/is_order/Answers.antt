use Rattle.std.proofs.Common.{◌∙◌}
use Rattle.object_tables.specs.Models.{partners_at}
use Rattle.object_tables.proofs.ConditionLemmas.{order-exactly}
use Rattle.object_tables.proofs.model.Model.is_order.Goals as goal

pub returns : goal.returns
returns c =
    order-exactly c.in_ok-rearranged.rearranged c.args.order.now c.as_slice.result.now (partners_at c.args.self.now c.args.a.0 c.args.p.0)
    (c.as_slice.ensures.value ∙ c.in_ok-partners.ensures) c.in_ok-rearranged.ensures
