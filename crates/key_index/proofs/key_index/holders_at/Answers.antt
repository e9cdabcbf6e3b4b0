use Rattle.std.specs.Prelude.{◌≡◌, ◌-◌, ℕ, length, take, drop}
use Rattle.std.proofs.Common.{arith, rules}
use Rattle.std.proofs.lemmas.List.{take_all, length-drop}
use Rattle.std.proofs.lemmas.List.Sorted.{IsPartitionPoint-from_clause}
use Rattle.object_tables.specs.declared.value.Value.{Value}
use Rattle.key_index.specs.HolderOrder.{key_of, key_order}
use Rattle.key_index.proofs.OrderLaws.{keys_total, objects_order}
use Rattle.key_index.proofs.RangeLaws.{is_before, is_not_behind, first_parted, found}
use Rattle.key_index.proofs.key_index.holders_at.Goals as goal

pub returns : goal.returns
returns c =
    let k : ℕ × Value = (c.args.prop.0, c.args.value.now) in
    let xs = c.args.holders.now in
    let first = c.partition_point-first.result in
    let rest = take (length xs - first) (drop first xs) in
    let rest_is : rest ≡ drop first xs = take_all (length xs - first) (drop first xs) (omega (arith, length-drop first xs)) in
    let first_at =
    IsPartitionPoint-from_clause (is_before key_of key_order keys_total objects_order k) xs first c.partition_point-first.ensures.partitioned
    (first_parted key_of key_order keys_total objects_order k xs c.requires)
    (λ a r q k. search rules) in
    let count = c.partition_point-count.result in
    let bounds = c.partition_point-count.ensures in
    found key_of key_order keys_total objects_order k xs c.requires first c.partition_point-first.ensures.bound first_at rest rest_is count bounds.bound
    (λ parted. IsPartitionPoint-from_clause (is_not_behind key_of key_order keys_total objects_order k) rest count bounds.partitioned parted (λ a r q k. search rules))
