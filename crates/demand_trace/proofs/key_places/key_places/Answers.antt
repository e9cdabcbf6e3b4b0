use Rattle.std.proofs.Common.{◌≡◌, ◌∙◌, length, arith}
use Rattle.enforcement_rules.proofs.DerivationSteps.{written_over}
use Rattle.demand_trace.proofs.KeyLaws.{places_inside, places_are}
use Rattle.demand_trace.proofs.key_places.key_places.Goals as goal

pub put_keys-requires : goal.put_keys-requires
put_keys-requires c =
    places_inside c.args.program.now c.args.target.now c.target_number.result c.class_count.result c.as_slice.result.now c.as_mut_slice.result.now c.target_number.ensures c.as_slice.ensures
    c.class_count.ensures.count (c.as_mut_slice.ensures.value ∙ c.in_ok-table.ensures) c.requires

pub returns : goal.returns
returns c =
    let long : length c.as_mut_slice.result.now ≡ c.in_ok-table.table.len = c.as_mut_slice.ensures.len in
    let kept : length c.put_keys.new.table ≡ length c.as_mut_slice.result.now = c.put_keys.auto.table in
    let same : c.in_ok-table.table.len ≡ length c.put_keys.new.table = omega (arith, long, kept) in
    places_are c.args.program.now c.args.target.now c.target_number.result c.class_count.result c.as_slice.result.now c.as_mut_slice.result.now c.target_number.ensures c.as_slice.ensures
    c.class_count.ensures.count (c.as_mut_slice.ensures.value ∙ c.in_ok-table.ensures) c.requires c.put_keys.new.table _ c.put_keys.ensures
    (written_over c.put_keys.new.table _ c.in_ok-table.table.len same)
