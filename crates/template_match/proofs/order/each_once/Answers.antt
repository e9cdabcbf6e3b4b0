use Rattle.template_match.specs.Order.{binding_order}
use Rattle.template_match.proofs.OrderLaws.{binding_total, each_once}
use Rattle.template_match.proofs.order.each_once.Goals as goal

pub returns : goal.returns
returns c =
    each_once (binding_order c.args.variables.now) (binding_total c.args.variables.now) c.args.found c.in_order.result c.without_neighbours.result
    c.in_order.ensures.same c.in_order.ensures.sorted c.without_neighbours.ensures
