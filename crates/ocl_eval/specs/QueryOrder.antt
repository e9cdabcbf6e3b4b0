-- An order of calls of queries, by which their values are looked up: by the number of the query, and then by the arguments, one
-- after the other. Calls that tie are one.
use Rattle.std.specs.Prelude.{List}
use Rattle.std.specs.Ordering.{nat_cmp, ordering_then, eq_by_cmp}
use Rattle.std.specs.Cmp.{IsTotalOrder, IsEquivalence, on_total, then_total, nat_cmp_total}
use Rattle.std.specs.Cmp.Lexicographic.{slice_cmp, lists_total}
use Rattle.std.proofs.lemmas.Cmp.{eq_by_cmp_equiv}
use Rattle.std.specs.declared.cmp.Ordering.{Ordering}
use Rattle.qvtr_semantics.specs.declared.out.Out.{Out}
use Rattle.ocl_eval.specs.declared.query_call.QueryCall.{QueryCall}
use Rattle.ocl_eval.specs.Order.{out_order}
use Rattle.ocl_eval.specs.OutOrderLaws.{out_order_total}

abbrev pub args_order : List Out → List Out → Ordering
args_order = slice_cmp out_order

abbrev pub call_order : QueryCall → QueryCall → Ordering
call_order c d = ordering_then (nat_cmp c.query d.query) (args_order c.args d.args)

pub call_total : IsTotalOrder call_order
call_total = then_total (on_total (λ (c : QueryCall). c.query) nat_cmp_total) (on_total (λ (c : QueryCall). c.args) (lists_total out_order_total))

pub same_call_equiv : IsEquivalence (eq_by_cmp call_order)
same_call_equiv = eq_by_cmp_equiv call_total
