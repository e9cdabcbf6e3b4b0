use Rattle.std.proofs.Common.{◌≡◌, ◌∙◌, ap, rules}
use Rattle.std.specs.Ordering.{is_lt}
use Rattle.std.proofs.lemmas.List.Sorted.{answers_always}
use Rattle.qvtr_semantics.specs.Data.{is_before, in_order}
use Rattle.ocl_eval.specs.Order.{datum_order}
use Rattle.ocl_eval.specs.OrderLaws.{before_by_order}
use Rattle.ocl_eval.proofs.SortLaws.{weak, sorted_is_in_order}
use Rattle.ocl_eval.proofs.ordering.in_order.Goals as goal

pub returns : goal.returns
returns c =
    let sorted = c.sort_unstable_by.ensures.sorted is_before weak (answers_always _ _ _ (λ f a r g h. let is : r ≡ datum_order a.0.now a.1.0.now = search rules in ap is_lt is ∙ before_by_order a.0.now a.1.0.now)) in
    c.from_vec.ensures ∙ sorted_is_in_order _ _ c.sort_unstable_by.ensures.permutation sorted ∙ ap in_order c.into_vec-data.ensures
