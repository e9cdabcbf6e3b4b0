use Rattle.std.proofs.Common.{◌≡◌, ◌∙◌, length, arith}
use Rattle.enforcement_rules.proofs.DerivationSteps.{written_over}
use Rattle.enforcement_rules.proofs.KeyTableLaws.{listed_inside, table_told, numbers_told}
use Rattle.enforcement_rules.proofs.key_table.key_table.Goals as goal

pub put_keys-requires : goal.put_keys-requires
put_keys-requires c =
    listed_inside c.args.metas.now c.args.program.now c.args.number c.requires.target c.get-meta.result.now c.get-meta.ensures c.as_slice.result.now c.as_slice.ensures c.as_mut_slice.result.now c.class_count.result
    c.class_count.ensures.count (c.as_mut_slice.ensures.value ∙ c.in_ok-table.ensures) c.requires.keys

pub returns-clause-table : goal.returns-clause-table
returns-clause-table c =
    let long : length c.as_mut_slice.result.now ≡ c.in_ok-table.table.len = c.as_mut_slice.ensures.len in
    let kept : length c.put_keys.new.table ≡ length c.as_mut_slice.result.now = c.put_keys.auto.table in
    let same : c.in_ok-table.table.len ≡ length c.put_keys.new.table = omega (arith, long, kept) in
    table_told c.args.metas.now c.args.program.now c.args.number c.requires.target c.get-meta.result.now c.get-meta.ensures c.as_slice.result.now c.as_slice.ensures c.as_mut_slice.result.now c.class_count.result
    c.class_count.ensures.count (c.as_mut_slice.ensures.value ∙ c.in_ok-table.ensures) c.requires.keys _ c.put_keys.new.table (written_over c.put_keys.new.table _ c.in_ok-table.table.len same) c.put_keys.ensures

pub returns-clause-numbers : goal.returns-clause-numbers
returns-clause-numbers c =
    let long : length c.as_mut_slice.result.now ≡ c.in_ok-table.table.len = c.as_mut_slice.ensures.len in
    let kept : length c.put_keys.new.table ≡ length c.as_mut_slice.result.now = c.put_keys.auto.table in
    let same : c.in_ok-table.table.len ≡ length c.put_keys.new.table = omega (arith, long, kept) in
    numbers_told c.args.metas.now c.args.program.now c.args.number c.requires.target c.get-meta.result.now c.get-meta.ensures c.as_slice.result.now c.as_slice.ensures c.as_mut_slice.result.now c.class_count.result
    c.class_count.ensures.count (c.as_mut_slice.ensures.value ∙ c.in_ok-table.ensures) c.requires.keys _ c.put_keys.new.table (written_over c.put_keys.new.table _ c.in_ok-table.table.len same) c.put_keys.ensures
