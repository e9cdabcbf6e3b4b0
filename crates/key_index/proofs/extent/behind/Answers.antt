use Rattle.std.specs.Prelude.{◌≡◌, ◌-◌, length, take, drop}
use Rattle.std.proofs.Common.{Bool, leb, ◌∙◌, arith, rules}
use Rattle.std.proofs.lemmas.List.{take_all, length-drop}
use Rattle.std.proofs.lemmas.List.Sorted.{IsPartitionPoint-from_clause, IsPartitionedBy-leb}
use Rattle.key_index.specs.declared.instance.Instance.{Instance}
use Rattle.key_index.specs.Instances.{class_number}
use Rattle.key_index.proofs.RangeLaws.{from_point}
use Rattle.key_index.proofs.extent.behind.Goals as goal

pub returns : goal.returns
returns c =
    let xs = c.args.instances.now in
    let k = c.args.class.0 in
    let upto : Instance → Bool = λ i. leb i.class.0 k in
    let count = c.partition_point-count.result in
    let bounds = c.partition_point-count.ensures in
    let rest_is : take (length xs - count) (drop count xs) ≡ drop count xs = take_all (length xs - count) (drop count xs) (omega (arith, length-drop count xs)) in
    let at = IsPartitionPoint-from_clause upto xs count bounds.partitioned (IsPartitionedBy-leb class_number xs k c.requires) (λ a r q k. search rules) in
    rest_is ∙ from_point upto xs count bounds.bound at
