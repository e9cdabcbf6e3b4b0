use Rattle.std.proofs.Common.{ℕ, sym, subst}
use Rattle.enforcement_rules.specs.KeyTables.{IsKeyWithin}
use Rattle.enforcement_rules.proofs.KeyTableLaws.{one_key_put}
use Rattle.enforcement_rules.proofs.key_table.put_keys.Goals as goal

pub put_key-requires : goal.put_key-requires
put_key-requires c =
    subst (λ (n : ℕ). IsKeyWithin c.args.meta.now c.args.number n c.index-keys-k.result) (sym c.loop-k.auto.table)
    (c.requires c.index-keys-k.result (c.loop-k.k, c.loop-k-test.true, sym c.index-keys-k.is))

pub loop-k-preserved : goal.loop-k-preserved
loop-k-preserved c =
    one_key_put c.args.meta.now c.args.number c.args.keys.now c.loop-k.k c.index-keys-k.result c.loop-k.table c.args.table.now c.put_key.new.table c.loop-k-test.true c.index-keys-k.is c.loop-k.invariant c.put_key.ensures
