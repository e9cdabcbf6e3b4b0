use Rattle.std.specs.Prelude.{◌≡◌, ◌-◌, ℕ, Option, Some, length, take, drop}
use Rattle.std.specs.declared.cmp.Ordering.{Ordering}
use Rattle.std.proofs.Common.{arith, rules}
use Rattle.std.proofs.lemmas.List.{take_all, length-drop}
use Rattle.std.proofs.lemmas.List.Sorted.{IsPartitionPoint-from_clause}
use Rattle.key_index.proofs.RangeLaws.{is_before, is_not_behind, first_parted, found}
use Rattle.qvtr_semantics.specs.declared.datum.Datum.{Datum}
use Rattle.template_match.specs.Order.{optional_order}
use Rattle.template_match.specs.OrderLaws.{optional_total}
use Rattle.template_match.specs.Rows.{cell_at}
use Rattle.template_match.proofs.row_order.sorted_with.Goals as goal

pub returns : goal.returns
returns c =
    let key : ℕ → Option Datum = cell_at c.args.rows.now c.args.column in
    let later : ℕ → ℕ → Ordering = c.requires.0 in
    let k : Option Datum = Some c.args.datum.now in
    let xs = c.args.numbers.now in
    let up = c.requires.1 in
    let first = c.partition_point-first.result in
    let rest = take (length xs - first) (drop first xs) in
    let rest_is : rest ≡ drop first xs = take_all (length xs - first) (drop first xs) (omega (arith, length-drop first xs)) in
    let first_at =
    IsPartitionPoint-from_clause (is_before key optional_order optional_total later k) xs first c.partition_point-first.ensures.partitioned
    (first_parted key optional_order optional_total later k xs up)
    (λ a r q k. search rules) in
    let count = c.partition_point-count.result in
    let bounds = c.partition_point-count.ensures in
    found key optional_order optional_total later k xs up first c.partition_point-first.ensures.bound first_at rest rest_is count bounds.bound
    (λ parted. IsPartitionPoint-from_clause (is_not_behind key optional_order optional_total later k) rest count bounds.partitioned parted (λ a r q k. search rules))
