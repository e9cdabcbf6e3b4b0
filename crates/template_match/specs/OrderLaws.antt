-- The order of the values that variables may have is total, and values that tie are one.
use Rattle.std.specs.Prelude.{None, Some}
use Rattle.std.specs.Cmp.{IsTotalOrder}
use Rattle.std.specs.Cmp.Lexicographic.{options_total}
use Rattle.std.specs.FinMap.{IsAntisymmetric}
use Rattle.std.specs.Ordering.{is_lt, is_eq, is_gt}
use Rattle.std.proofs.Common.{refl, ap, ◌∙◌}
use Rattle.std.proofs.lemmas.Bool.{true≢false}
use Rattle.ocl_eval.specs.OrderLaws.{order_total, ties_where_same, same_decides}
use Rattle.template_match.specs.Order.{optional_order}

pub optional_total : IsTotalOrder optional_order
optional_total = options_total order_total

pub optional_exact : IsAntisymmetric optional_order
optional_exact None None h = refl
optional_exact None (Some e) h = absurd (true≢false (ap is_lt h))
optional_exact (Some d) None h = absurd (true≢false (ap is_gt h))
optional_exact (Some d) (Some e) h = ap (λ k. Some k) ((same_decides d e).0 (ties_where_same d e ∙ ap is_eq h))
