use Rattle.std.proofs.Common.{◌∙◌, ap, rules}
use Rattle.std.specs.List.{dedup}
use Rattle.std.specs.Ordering.{eq_by_cmp}
use Rattle.std.proofs.lemmas.Fn.{dedup_same}
use Rattle.template_match.specs.Order.{binding_order}
use Rattle.template_match.proofs.order.without_neighbours.Goals as goal

pub returns : goal.returns
returns c =
    c.from_vec.ensures
    ∙ dedup_same _ (λ x y. eq_by_cmp (binding_order c.args.variables.now) x y) _ (λ x y b f' x' y' k. search rules) _ _ c.dedup_by.ensures.filtered
    ∙ ap (dedup (λ x y. eq_by_cmp (binding_order c.args.variables.now) x y)) c.into_vec-bindings.ensures
