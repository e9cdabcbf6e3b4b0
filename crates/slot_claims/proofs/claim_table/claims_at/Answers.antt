use Rattle.std.specs.Prelude.{◌≡◌, ◌-◌, length, take, drop}
use Rattle.std.proofs.Common.{arith, rules}
use Rattle.std.proofs.lemmas.List.{take_all, length-drop}
use Rattle.std.proofs.lemmas.List.Sorted.{IsPartitionPoint-from_clause}
use Rattle.slot_claims.specs.ObjectClaims.{spot_by}
use Rattle.slot_claims.proofs.SpotLaws.{is_before, is_not_behind, first_parted, rest_there}
use Rattle.slot_claims.proofs.claim_table.claims_at.Goals as goal

pub returns : goal.returns
returns c =
    let s = spot_by c.args.spot in
    let xs = c.args.claims.now in
    let first = c.partition_point-first.result in
    let rest = take (length xs - first) (drop first xs) in
    let rest_is : rest ≡ drop first xs = take_all (length xs - first) (drop first xs) (omega (arith, length-drop first xs)) in
    let first_at =
    IsPartitionPoint-from_clause (is_before s) xs first c.partition_point-first.ensures.partitioned (first_parted s xs c.requires)
    (λ a r q k. search rules) in
    let count = c.partition_point-count.result in
    let bounds = c.partition_point-count.ensures in
    rest_there s xs c.requires first c.partition_point-first.ensures.bound first_at rest rest_is count bounds.bound
    (λ parted. IsPartitionPoint-from_clause (is_not_behind s) rest count bounds.partitioned parted (λ a r q k. search rules))
