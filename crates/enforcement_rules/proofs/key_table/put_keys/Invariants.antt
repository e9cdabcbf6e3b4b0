use Rattle.std.proofs.Common.{◌≡◌, drop}
use Rattle.enforcement_rules.specs.KeyTables.{with_keys}
use Rattle.enforcement_rules.proofs.key_table.put_keys.Given as goal

abbrev pub invariant-loop-k : goal.invariant-loop-k
invariant-loop-k l = with_keys l.meta l.number l.k (drop l.k l.keys) l.table ≡ with_keys l.meta l.number 0 l.keys l.fn.table
