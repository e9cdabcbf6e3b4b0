use Rattle.std.proofs.Common.{◌≡◌, ◌∙◌, sym, ap, get_or, []}
use Rattle.object_tables.specs.Flat.{IsSpot, number_at}
use Rattle.object_tables.proofs.FlatLemmas.{spot_of, place_seen, number_small, number_placed}
use Rattle.object_tables.proofs.tables.Tables.values.Goals as goal

pub number_of-n-requires-clause-small : goal.number_of-n-requires-clause-small
number_of-n-requires-clause-small c =
    let s : IsSpot c.self.inside.entries.items c.args.o c.args.k =
    spot_of c.self.inside.entries.items c.self.inside.values c.self.inside.index.items c.self.inside.homes.items c.self.inside.arena.links c.args.self.now c.args.o c.args.k
    c.self.view_is c.requires.object c.requires.place in
    rw c.deref.ensures.value (number_small _ _ _ _ _ _ c.self.invariant.0 s)

pub at-requires : goal.at-requires
at-requires c =
    let s : IsSpot c.self.inside.entries.items c.args.o c.args.k =
    spot_of c.self.inside.entries.items c.self.inside.values c.self.inside.index.items c.self.inside.homes.items c.self.inside.arena.links c.args.self.now c.args.o c.args.k
    c.self.view_is c.requires.object c.requires.place in
    let p = number_placed _ _ _ _ _ _ c.self.invariant.0 s in
    rw (c.number_of-n.ensures, c.deref.ensures.value, c.self.invariant.1) p

pub returns : goal.returns
returns c =
    let s : IsSpot c.self.inside.entries.items c.args.o c.args.k =
    spot_of c.self.inside.entries.items c.self.inside.values c.self.inside.index.items c.self.inside.homes.items c.self.inside.arena.links c.args.self.now c.args.o c.args.k
    c.self.view_is c.requires.object c.requires.place in
    let n : c.number_of-n.result ≡ number_at c.self.inside.entries.items c.args.o c.args.k = rw c.deref.ensures.value at c.number_of-n.ensures in
    c.at.ensures ∙ ap (λ x. get_or c.self.inside.values x []) n
    ∙ sym (ap (λ p. p.values) (place_seen c.self.inside.entries.items c.self.inside.values c.self.inside.index.items c.self.inside.homes.items c.self.inside.arena.links
    c.args.self.now c.args.o c.args.k c.self.view_is s))
