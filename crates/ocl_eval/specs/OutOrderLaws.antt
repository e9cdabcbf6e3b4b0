-- The order of values of expressions is total, and ties exactly where two values are of one rank and have the same data.
use Rattle.std.proofs.Common.{◌≡◌, ◌∙◌, ap}
use Rattle.std.specs.Prelude.{◌&&◌, ◌==◌}
use Rattle.std.specs.Ordering.{eq_by_cmp}
use Rattle.std.specs.Cmp.{IsTotalOrder, IsEquivalence, on_total, then_total, nat_cmp_total, nat_eq_equiv, on_equiv, and_equiv}
use Rattle.std.specs.Cmp.Lexicographic.{slice_cmp, lists_total, lists_ties, lists_equiv}
use Rattle.qvtr_semantics.specs.declared.out.Out.{Out}
use Rattle.ocl_eval.specs.Order.{datum_order, rank, data_in, out_order, same_out}
use Rattle.ocl_eval.specs.OrderLaws.{order_total, ties_where_same, ties_then, same_equiv}

pub out_order_total : IsTotalOrder out_order
out_order_total = then_total (on_total rank nat_cmp_total) (on_total data_in (lists_total order_total))

pub outs_tie : (x y : Out) → same_out x y ≡ eq_by_cmp out_order x y
outs_tie x y = ap (λ b. (rank x == rank y) && b) (lists_ties datum_order ties_where_same (data_in x) (data_in y)) ∙ ties_then (rank x) (rank y) (slice_cmp datum_order (data_in x) (data_in y))

pub same_out_equiv : IsEquivalence same_out
same_out_equiv = and_equiv (on_equiv rank nat_eq_equiv) (on_equiv data_in (lists_equiv same_equiv))
