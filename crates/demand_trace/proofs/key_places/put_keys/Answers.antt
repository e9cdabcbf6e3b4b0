use Rattle.std.proofs.Common.{ℕ, sym, subst}
use Rattle.demand_trace.specs.Naming.{HasPlace}
use Rattle.demand_trace.proofs.KeyLaws.{place_put}
use Rattle.demand_trace.proofs.key_places.put_keys.Goals as goal

pub put_key-requires : goal.put_key-requires
put_key-requires c =
    subst (λ (n : ℕ). HasPlace c.args.number n c.index-keys-place.result) (sym c.loop-place.auto.table)
    (c.requires c.index-keys-place.result (c.loop-place.place, c.loop-place-test.true, sym c.index-keys-place.is))

pub loop-place-preserved : goal.loop-place-preserved
loop-place-preserved c =
    place_put c.args.number c.args.keys.now c.loop-place.place c.index-keys-place.result c.loop-place.table c.args.table.now c.put_key.new.table c.loop-place-test.true c.index-keys-place.is
    c.loop-place.invariant c.put_key.ensures
