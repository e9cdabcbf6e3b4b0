use Rattle.std.proofs.Common.{◌≡◌, ◌∙◌, ℕ, List, [], ap, length, get_or}
use Rattle.link_arena.specs.Links.{Linkage}
use Rattle.object_tables.specs.Flat.{IsSpot, end_at}
use Rattle.object_tables.proofs.FlatLemmas.{spot_of, number_small, number_placed, contains_ends, rows-parted_at, flat-links, length-parted, blank-parted}
use Rattle.object_tables.proofs.tables.Tables.part.Goals as goal

pub end_of-first-requires-clause-small : goal.end_of-first-requires-clause-small
end_of-first-requires-clause-small c =
    let s : IsSpot c.self.inside.entries.items c.args.o c.args.k =
    spot_of c.self.inside.entries.items c.self.inside.values c.self.inside.index.items c.self.inside.homes.items c.self.inside.arena.links c.args.self.now c.args.o c.args.k
    c.self.view_is c.requires.first_object c.requires.first_place in
    rw c.deref.ensures.value (number_small _ _ _ _ _ _ c.self.invariant.0 s)

pub end_of-first-requires-clause-within : goal.end_of-first-requires-clause-within
end_of-first-requires-clause-within c =
    let s : IsSpot c.self.inside.entries.items c.args.o c.args.k =
    spot_of c.self.inside.entries.items c.self.inside.values c.self.inside.index.items c.self.inside.homes.items c.self.inside.arena.links c.args.self.now c.args.o c.args.k
    c.self.view_is c.requires.first_object c.requires.first_place in
    rw (c.deref.ensures.value, c.deref-2.ensures.value) (number_placed _ _ _ _ _ _ c.self.invariant.0 s)

pub end_of-second-requires-clause-small : goal.end_of-second-requires-clause-small
end_of-second-requires-clause-small c =
    let s : IsSpot c.self.inside.entries.items c.args.other c.args.place =
    spot_of c.self.inside.entries.items c.self.inside.values c.self.inside.index.items c.self.inside.homes.items c.self.inside.arena.links c.args.self.now c.args.other
    c.args.place c.self.view_is c.requires.second_object c.requires.second_place in
    rw c.deref-3.ensures.value (number_small _ _ _ _ _ _ c.self.invariant.0 s)

pub end_of-second-requires-clause-within : goal.end_of-second-requires-clause-within
end_of-second-requires-clause-within c =
    let s : IsSpot c.self.inside.entries.items c.args.other c.args.place =
    spot_of c.self.inside.entries.items c.self.inside.values c.self.inside.index.items c.self.inside.homes.items c.self.inside.arena.links c.args.self.now c.args.other
    c.args.place c.self.view_is c.requires.second_object c.requires.second_place in
    rw (c.deref-3.ensures.value, c.deref-4.ensures.value) (number_placed _ _ _ _ _ _ c.self.invariant.0 s)

pub part-requires : goal.part-requires
part-requires c =
    let s : IsSpot c.self.inside.entries.items c.args.o c.args.k =
    spot_of c.self.inside.entries.items c.self.inside.values c.self.inside.index.items c.self.inside.homes.items c.self.inside.arena.links c.args.self.now c.args.o c.args.k
    c.self.view_is c.requires.first_object c.requires.first_place in
    let e : c.end_of-first.result ≡ end_at c.self.inside.entries.items c.self.inside.index.items c.args.o c.args.k =
    rw (c.deref.ensures.value, c.deref-2.ensures.value) at c.end_of-first.ensures in
    let d : c.end_of-second.result ≡ end_at c.self.inside.entries.items c.self.inside.index.items c.args.other c.args.place =
    rw (c.deref-3.ensures.value, c.deref-4.ensures.value) at c.end_of-second.ensures in
    rw (e, d) (contains_ends c.self.inside.entries.items c.self.inside.values c.self.inside.index.items c.self.inside.homes.items c.self.inside.arena.links c.args.self.now
    c.args.o c.args.k c.args.other c.args.place c.self.invariant.0 c.end_count.ensures.simple c.self.view_is s c.requires.joined)

pub invariant_of-self : goal.invariant_of-self
invariant_of-self c = (
  flat-links _ _ _ c.self.inside.arena.links c.part.new.self.links c.self.invariant.0 (ap length (ap (λ (v : Linkage). v.links) c.part.ensures)
      ∙ length-parted c.self.inside.arena.links c.end_of-first.result c.end_of-second.result)
      (ap (λ (xs : List (List ℕ)). get_or xs 0 []) (ap (λ (v : Linkage). v.links) c.part.ensures) ∙ blank-parted c.self.inside.arena.links c.end_of-first.result c.end_of-second.result
      c.self.invariant.0.blank),
  c.self.invariant.1,
  c.self.invariant.2,
  c.self.invariant.3,
)

pub returns : goal.returns
returns c =
    let s : IsSpot c.self.inside.entries.items c.args.o c.args.k =
    spot_of c.self.inside.entries.items c.self.inside.values c.self.inside.index.items c.self.inside.homes.items c.self.inside.arena.links c.args.self.now c.args.o c.args.k
    c.self.view_is c.requires.first_object c.requires.first_place in
    let t : IsSpot c.self.inside.entries.items c.args.other c.args.place =
    spot_of c.self.inside.entries.items c.self.inside.values c.self.inside.index.items c.self.inside.homes.items c.self.inside.arena.links c.args.self.now c.args.other
    c.args.place c.self.view_is c.requires.second_object c.requires.second_place in
    let e : c.end_of-first.result ≡ end_at c.self.inside.entries.items c.self.inside.index.items c.args.o c.args.k =
    rw (c.deref.ensures.value, c.deref-2.ensures.value) at c.end_of-first.ensures in
    let d : c.end_of-second.result ≡ end_at c.self.inside.entries.items c.self.inside.index.items c.args.other c.args.place =
    rw (c.deref-3.ensures.value, c.deref-4.ensures.value) at c.end_of-second.ensures in
    rows-parted_at c.self.inside.entries.items c.self.inside.values c.self.inside.index.items c.self.inside.homes.items c.self.inside.arena.links c.part.new.self.links
    c.args.self.now c.args.o c.args.k c.args.other c.args.place c.end_of-first.result c.end_of-second.result
    c.self.invariant.0 c.end_count.ensures.simple s t c.self.view_is c.requires.joined e d (ap (λ (v : Linkage). v.links) c.part.ensures)
