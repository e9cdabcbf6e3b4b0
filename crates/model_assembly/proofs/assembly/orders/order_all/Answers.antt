use Rattle.std.proofs.Common.{◌≡◌, ◌∙◌, ◌+◌, suc, ap, arith}
use Rattle.model_assembly.specs.AssemblyOrders.{ordered, ordered_at}
use Rattle.model_assembly.proofs.assembly.orders.order_all.Goals as goal

pub loop-i-preserved : goal.loop-i-preserved
loop-i-preserved c =
    let i = c.loop-i.i in
    let xs = c.args.namings.now in
    let q : suc i ≡ i + 1 = omega arith in
    c.in_ok-order_at.ensures ∙ ap (λ m. ordered_at m xs i) c.loop-i.invariant ∙ ap (ordered c.args.model.now xs) q
