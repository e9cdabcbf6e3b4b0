use Rattle.std.proofs.Common.{◌≡◌, drop}
use Rattle.template_match.specs.Order.{binding_order}
use Rattle.template_match.proofs.order.binding_order.Given as goal

abbrev pub invariant-loop-variable : goal.invariant-loop-variable
invariant-loop-variable l = binding_order (drop l.variable-index l.variables) l.one l.other ≡ binding_order l.variables l.one l.other
