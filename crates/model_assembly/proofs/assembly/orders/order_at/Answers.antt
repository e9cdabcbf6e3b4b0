use Rattle.std.proofs.Common.{◌∙◌, ◌-◌, [], length, drop, ap, sym, map, arith}
use Rattle.std.proofs.lemmas.Bool.{cond-true}
use Rattle.std.proofs.lemmas.List.{take_all, length-drop}
use Rattle.mof_metamodel.specs.Metamodels.{united}
use Rattle.object_tables.specs.declared.value.ObjId.{ObjId}
use Rattle.object_tables.specs.Models.{with_order}
use Rattle.model_assembly.specs.AssemblyNamings.{at}
use Rattle.model_assembly.specs.AssemblyOrders.{is_first, named_from, targets_run}
use Rattle.model_assembly.proofs.assembly.orders.order_at.Goals as goal

pub returns-in_ok-order : goal.returns-in_ok-order
returns-in_ok-order c =
    let m = c.args.model.now in
    let xs = c.args.namings.now in
    let i = c.args.i in
    let n = at xs i in
    let count = length-drop i xs in
    let whole = take_all (length xs - i) (drop i xs) (omega (arith, count)) in
    c.set_order.ensures
    ∙ ap (with_order m n.object n.property) (ap (map (λ (b : ObjId). b.0)) c.as_slice.ensures.value ∙ c.in_ok-order.ensures ∙ ap (λ ys. united [] (targets_run n.object n.property ys)) whole)
    ∙ sym (cond-true (is_first xs i) (with_order m n.object n.property (named_from xs i)) m (sym c.is_first.ensures ∙ c.if-is_first.true))
