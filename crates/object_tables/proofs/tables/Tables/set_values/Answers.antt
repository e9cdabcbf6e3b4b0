use Rattle.std.proofs.Common.{◌≡◌, ◌∙◌, ap, length}
use Rattle.object_tables.specs.Flat.{IsSpot, number_at}
use Rattle.object_tables.proofs.FlatLemmas.{spot_of, number_small, number_placed, rows-values_at}
use Rattle.std.proofs.lemmas.List.{length-set}
use Rattle.object_tables.proofs.tables.Tables.set_values.Goals as goal

pub number_of-n-requires-clause-small : goal.number_of-n-requires-clause-small
number_of-n-requires-clause-small c =
    let s : IsSpot c.self.inside.entries.items c.args.o c.args.k =
    spot_of c.self.inside.entries.items c.self.inside.values c.self.inside.index.items c.self.inside.homes.items c.self.inside.arena.links c.args.self.now c.args.o c.args.k
    c.self.view_is c.requires.object c.requires.place in
    rw c.deref.ensures.value (number_small _ _ _ _ _ _ c.self.invariant.0 s)

pub put-requires : goal.put-requires
put-requires c =
    let s : IsSpot c.self.inside.entries.items c.args.o c.args.k =
    spot_of c.self.inside.entries.items c.self.inside.values c.self.inside.index.items c.self.inside.homes.items c.self.inside.arena.links c.args.self.now c.args.o c.args.k
    c.self.view_is c.requires.object c.requires.place in
    let p = number_placed _ _ _ _ _ _ c.self.invariant.0 s in
    rw (c.number_of-n.ensures, c.deref.ensures.value, c.self.invariant.1) p

pub invariant_of-self : goal.invariant_of-self
invariant_of-self c = (
  c.self.invariant.0,
  ap length c.put.ensures ∙ length-set c.self.inside.values c.number_of-n.result c.args.values
      ∙ c.self.invariant.1,
  c.self.invariant.2,
  c.self.invariant.3,
)

pub returns : goal.returns
returns c =
    let s : IsSpot c.self.inside.entries.items c.args.o c.args.k =
    spot_of c.self.inside.entries.items c.self.inside.values c.self.inside.index.items c.self.inside.homes.items c.self.inside.arena.links c.args.self.now c.args.o c.args.k
    c.self.view_is c.requires.object c.requires.place in
    let n : c.number_of-n.result ≡ number_at c.self.inside.entries.items c.args.o c.args.k = rw c.deref.ensures.value at c.number_of-n.ensures in
    rows-values_at c.self.inside.entries.items c.self.inside.values c.put.new.self c.self.inside.index.items c.self.inside.homes.items c.self.inside.arena.links
    c.args.self.now c.args.o c.args.k c.number_of-n.result c.args.values
    c.self.invariant.0 c.self.invariant.1 s c.self.view_is n c.put.ensures
