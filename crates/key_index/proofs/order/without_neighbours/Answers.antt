use Rattle.std.proofs.Common.{rules}
use Rattle.std.specs.Ordering.{eq_by_cmp}
use Rattle.std.proofs.lemmas.Fn.{dedup_same}
use Rattle.key_index.specs.HolderOrder.{holder_order}
use Rattle.key_index.proofs.order.without_neighbours.Goals as goal

pub returns : goal.returns
returns c = dedup_same _ (λ x y. eq_by_cmp holder_order x y) _ (λ x y b f' x' y' k. search rules) _ _ c.dedup_by.ensures.filtered
