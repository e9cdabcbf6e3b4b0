use Rattle.std.proofs.Common.{subst, length, ap, ◌∙◌, sym}
use Rattle.call_graph.specs.Strata.{AreLayers, AreStrata}
use Rattle.call_graph.specs.declared.layers.Layers.TheVariants.{Cyclic, Layered}
use Rattle.entry_making.proofs.OrderLaws.{not_cyclic}
use Rattle.entry_making.proofs.order.strata_of.Goals as goal

pub unreachable-requires : goal.unreachable-requires
unreachable-requires c =
    let are : AreLayers c.args.graph.now c.as_slice.result.now (Cyclic c.in-Cyclic.field-0) = subst (AreLayers c.args.graph.now c.as_slice.result.now) c.in-Cyclic.is c.in_ok-strata.ensures in
    let others = c.as_slice.ensures ∙ c.in_ok-others.ensures in
    not_cyclic c.args.graph.now (length c.args.graph.now) c.in-Cyclic.field-0 c.requires (subst (λ g. AreLayers c.args.graph.now g (Cyclic c.in-Cyclic.field-0)) others are)

pub returns : goal.returns
returns c =
    let are : AreLayers c.args.graph.now c.as_slice.result.now (Layered c.in-Layered.strata) = subst (AreLayers c.args.graph.now c.as_slice.result.now) c.in-Layered.is c.in_ok-strata.ensures in
    let others = c.as_slice.ensures ∙ c.in_ok-others.ensures in
    subst (λ g. AreStrata c.args.graph.now g c.in-Layered.strata) others are.0
