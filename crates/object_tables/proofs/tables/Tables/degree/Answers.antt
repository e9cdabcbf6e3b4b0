use Rattle.std.proofs.Common.{◌≡◌, sym, ◌∙◌, ap, length, get_or, []}
use Rattle.object_tables.specs.Flat.{IsSpot, end_at, address}
use Rattle.object_tables.proofs.FlatLemmas.{spot_of, number_small, number_placed, end_placed, joined_seen}
use Rattle.std.proofs.lemmas.List.{length-map}
use Rattle.object_tables.proofs.tables.Tables.degree.Goals as goal

pub end_of-end-requires-clause-small : goal.end_of-end-requires-clause-small
end_of-end-requires-clause-small c =
    let s : IsSpot c.self.inside.entries.items c.args.o c.args.k =
    spot_of c.self.inside.entries.items c.self.inside.values c.self.inside.index.items c.self.inside.homes.items c.self.inside.arena.links c.args.self.now c.args.o c.args.k
    c.self.view_is c.requires.object c.requires.place in
    rw c.deref.ensures.value (number_small _ _ _ _ _ _ c.self.invariant.0 s)

pub end_of-end-requires-clause-within : goal.end_of-end-requires-clause-within
end_of-end-requires-clause-within c =
    let s : IsSpot c.self.inside.entries.items c.args.o c.args.k =
    spot_of c.self.inside.entries.items c.self.inside.values c.self.inside.index.items c.self.inside.homes.items c.self.inside.arena.links c.args.self.now c.args.o c.args.k
    c.self.view_is c.requires.object c.requires.place in
    rw (c.deref.ensures.value, c.deref-2.ensures.value) (number_placed _ _ _ _ _ _ c.self.invariant.0 s)

pub degree-requires : goal.degree-requires
degree-requires c =
    let s : IsSpot c.self.inside.entries.items c.args.o c.args.k =
    spot_of c.self.inside.entries.items c.self.inside.values c.self.inside.index.items c.self.inside.homes.items c.self.inside.arena.links c.args.self.now c.args.o c.args.k
    c.self.view_is c.requires.object c.requires.place in
    let e : c.end_of-end.result ≡ end_at c.self.inside.entries.items c.self.inside.index.items c.args.o c.args.k =
    rw (c.deref.ensures.value, c.deref-2.ensures.value) at c.end_of-end.ensures in
    rw (e, c.self.invariant.0.ends) (end_placed _ _ _ _ _ _ c.self.invariant.0 s)

pub returns : goal.returns
returns c =
    let s : IsSpot c.self.inside.entries.items c.args.o c.args.k =
    spot_of c.self.inside.entries.items c.self.inside.values c.self.inside.index.items c.self.inside.homes.items c.self.inside.arena.links c.args.self.now c.args.o c.args.k
    c.self.view_is c.requires.object c.requires.place in
    let e : c.end_of-end.result ≡ end_at c.self.inside.entries.items c.self.inside.index.items c.args.o c.args.k =
    rw (c.deref.ensures.value, c.deref-2.ensures.value) at c.end_of-end.ensures in
    c.degree.ensures ∙ ap (λ x. length (get_or c.self.inside.arena.links x [])) e
    ∙ sym (length-map (get_or c.self.inside.arena.links (end_at c.self.inside.entries.items c.self.inside.index.items c.args.o c.args.k) []) (address
    c.self.inside.homes.items))
    ∙ ap length (sym (joined_seen c.self.inside.entries.items c.self.inside.values c.self.inside.index.items c.self.inside.homes.items c.self.inside.arena.links
    c.args.self.now c.args.o c.args.k c.self.view_is s))
