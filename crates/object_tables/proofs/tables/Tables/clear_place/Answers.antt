use Rattle.std.proofs.Common.{◌≡◌, ◌∙◌, ap, length, set}
use Rattle.link_arena.specs.Links.{Linkage}
use Rattle.object_tables.specs.Flat.{IsSpot, end_at, number_at}
use Rattle.object_tables.proofs.FlatLemmas.{spot_of, number_small, number_placed, end_placed, rows-cleared_at, flat-cleared}
use Rattle.std.proofs.lemmas.List.{length-set}
use Rattle.object_tables.proofs.tables.Tables.clear_place.Goals as goal

pub end_of-end-requires-clause-small : goal.end_of-end-requires-clause-small
end_of-end-requires-clause-small c =
    let s : IsSpot c.self.inside.entries.items c.args.o c.args.k =
    spot_of c.self.inside.entries.items c.self.inside.values c.self.inside.index.items c.self.inside.homes.items c.self.inside.arena.links c.args.self.now c.args.o c.args.k
    c.self.view_is c.requires.object c.requires.place in
    rw c.deref.ensures.value (number_small _ _ _ _ _ _ c.self.invariant.0 s)

pub end_of-end-requires-clause-within : goal.end_of-end-requires-clause-within
end_of-end-requires-clause-within c =
    let s : IsSpot c.self.inside.entries.items c.args.o c.args.k =
    spot_of c.self.inside.entries.items c.self.inside.values c.self.inside.index.items c.self.inside.homes.items c.self.inside.arena.links c.args.self.now c.args.o c.args.k
    c.self.view_is c.requires.object c.requires.place in
    rw (c.deref.ensures.value, c.deref-2.ensures.value) (number_placed _ _ _ _ _ _ c.self.invariant.0 s)

pub part_all-requires : goal.part_all-requires
part_all-requires c =
    let s : IsSpot c.self.inside.entries.items c.args.o c.args.k =
    spot_of c.self.inside.entries.items c.self.inside.values c.self.inside.index.items c.self.inside.homes.items c.self.inside.arena.links c.args.self.now c.args.o c.args.k
    c.self.view_is c.requires.object c.requires.place in
    let e : c.end_of-end.result ≡ end_at c.self.inside.entries.items c.self.inside.index.items c.args.o c.args.k =
    rw (c.deref.ensures.value, c.deref-2.ensures.value) at c.end_of-end.ensures in
    rw (e, c.self.invariant.0.ends) (end_placed _ _ _ _ _ _ c.self.invariant.0 s)

pub number_of-n-requires-clause-small : goal.number_of-n-requires-clause-small
number_of-n-requires-clause-small c =
    let s : IsSpot c.self.inside.entries.items c.args.o c.args.k =
    spot_of c.self.inside.entries.items c.self.inside.values c.self.inside.index.items c.self.inside.homes.items c.self.inside.arena.links c.args.self.now c.args.o c.args.k
    c.self.view_is c.requires.object c.requires.place in
    rw c.deref-3.ensures.value (number_small _ _ _ _ _ _ c.self.invariant.0 s)

pub put-requires : goal.put-requires
put-requires c =
    let s : IsSpot c.self.inside.entries.items c.args.o c.args.k =
    spot_of c.self.inside.entries.items c.self.inside.values c.self.inside.index.items c.self.inside.homes.items c.self.inside.arena.links c.args.self.now c.args.o c.args.k
    c.self.view_is c.requires.object c.requires.place in
    let p = number_placed _ _ _ _ _ _ c.self.invariant.0 s in
    rw (c.number_of-n.ensures, c.deref-3.ensures.value, c.self.invariant.1) p

pub invariant_of-self : goal.invariant_of-self
invariant_of-self c = (
  flat-cleared _ _ _ _ _ _ c.self.invariant.0 (ap (λ (v : Linkage). v.links) c.part_all.ensures),
  ap length c.put.ensures ∙ length-set c.self.inside.values c.number_of-n.result _
      ∙ c.self.invariant.1,
  c.self.invariant.2,
  c.self.invariant.3,
)

pub returns : goal.returns
returns c =
    let s : IsSpot c.self.inside.entries.items c.args.o c.args.k =
    spot_of c.self.inside.entries.items c.self.inside.values c.self.inside.index.items c.self.inside.homes.items c.self.inside.arena.links c.args.self.now c.args.o c.args.k
    c.self.view_is c.requires.object c.requires.place in
    let e : c.end_of-end.result ≡ end_at c.self.inside.entries.items c.self.inside.index.items c.args.o c.args.k =
    rw (c.deref.ensures.value, c.deref-2.ensures.value) at c.end_of-end.ensures in
    let n : c.number_of-n.result ≡ number_at c.self.inside.entries.items c.args.o c.args.k = rw c.deref-3.ensures.value at c.number_of-n.ensures in
    rows-cleared_at c.self.inside.entries.items c.self.inside.values c.put.new.self c.self.inside.index.items c.self.inside.homes.items c.self.inside.arena.links
    c.part_all.new.self.links c.args.self.now c.args.o c.args.k c.end_of-end.result c.number_of-n.result
    c.self.invariant.0 c.end_count.ensures.simple c.self.invariant.1 s c.self.view_is e n (ap (λ (v : Linkage). v.links) c.part_all.ensures) (c.put.ensures
    ∙ ap (λ us. set c.self.inside.values c.number_of-n.result us) c.new.ensures)
