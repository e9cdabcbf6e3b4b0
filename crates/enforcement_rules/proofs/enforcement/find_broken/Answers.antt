use Rattle.std.proofs.Common.{sym, subst}
use Rattle.enforcement_rules.specs.KeyTests.{AreKeyNumbers, IsKeyTable}
use Rattle.enforcement_rules.specs.ReaderTests.{AreReaders}
use Rattle.enforcement_rules.proofs.RangeLaws.{meta_within, keys_within}
use Rattle.enforcement_rules.proofs.enforcement.find_broken.Goals as goal

pub key_table-requires-clause-meta : goal.key_table-requires-clause-meta
key_table-requires-clause-meta c = meta_within c.args.metas.now c.args.program.now c.requires.formed c.target_meta-meta.result c.target_meta-meta.ensures

pub key_table-requires-clause-keys : goal.key_table-requires-clause-keys
key_table-requires-clause-keys c = keys_within c.args.metas.now c.args.program.now c.requires.formed c.target_meta-meta.result

pub has_two_keys-requires-clause-meta : goal.has_two_keys-requires-clause-meta
has_two_keys-requires-clause-meta c = meta_within c.args.metas.now c.args.program.now c.requires.formed c.target_meta-meta.result c.target_meta-meta.ensures

pub has_two_keys-requires-clause-keys : goal.has_two_keys-requires-clause-keys
has_two_keys-requires-clause-keys c = keys_within c.args.metas.now c.args.program.now c.requires.formed c.target_meta-meta.result

pub first_broken-requires-clause-tables : goal.first_broken-requires-clause-tables
first_broken-requires-clause-tables c = record {
  meta = meta_within c.args.metas.now c.args.program.now c.requires.formed c.target_meta-meta.result c.target_meta-meta.ensures;
  target = c.target_meta-meta.ensures;
  readers = subst (AreReaders c.args.program.now) (sym c.as_slice.ensures.value) c.in_ok-readers.ensures;
  numbers = subst (AreKeyNumbers c.args.program.now) (sym c.as_slice-2.ensures.value) c.in_ok-keys.ensures.numbers;
  keys = subst (IsKeyTable c.args.metas.now c.args.program.now) (sym c.as_slice-2.ensures.value) c.in_ok-keys.ensures.table;
  two = c.in_ok-has_two_keys.ensures;
}
