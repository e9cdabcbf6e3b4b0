use Rattle.std.proofs.Common.{sym, subst}
use Rattle.model_assembly.specs.AssemblyModels.{IsOrderedModel}
use Rattle.model_assembly.proofs.assembling.OrderedLaws.{linked_may_be_ordered, linked_ordered}
use Rattle.model_assembly.proofs.assembling.SourceOrders.{source_ordered}
use Rattle.model_assembly.proofs.assembly.models.ordered_model.Goals as goal

pub order_all-requires : goal.order_all-requires
order_all-requires c = linked_may_be_ordered c.args.meta.now c.args.filed c.args.namings.now c.in_ok-model.model c.requires.sound c.requires.answered c.in_ok-model.ensures

pub returns-2 : goal.returns-2
returns-2 c =
    let meta = c.args.meta.now in
    let f = c.args.filed in
    let m = c.in_ok-model.model in
    let xs = c.args.namings.now in
    let ordered = subst (IsOrderedModel meta f xs) (sym c.in-Ok-or_drop.ensures) (linked_ordered meta f xs m c.requires.sound c.requires.answered c.in_ok-model.ensures) in
    (ordered, source_ordered meta f xs _ c.requires.sound c.requires.answered ordered)
