use Rattle.std.proofs.Common.{◌≡◌, get_or, []}
use Rattle.std.specs.Prelude.{IsTrue, ◌↔◌, Contains}
use Rattle.object_tables.specs.Flat.{IsSpot, end_at}
use Rattle.object_tables.proofs.FlatLemmas.{spot_of, number_small, number_placed, end_placed, contains_ends, contains_seen, others_some}
use Rattle.object_tables.proofs.tables.Tables.is_joined.Goals as goal

pub end_of-first-requires-clause-small : goal.end_of-first-requires-clause-small
end_of-first-requires-clause-small c =
    let s : IsSpot c.self.inside.entries.items c.args.o c.args.k =
    spot_of c.self.inside.entries.items c.self.inside.values c.self.inside.index.items c.self.inside.homes.items c.self.inside.arena.links c.args.self.now c.args.o c.args.k
    c.self.view_is c.requires.first_object c.requires.first_place in
    rw c.deref.ensures.value (number_small _ _ _ _ _ _ c.self.invariant.0 s)

pub end_of-first-requires-clause-within : goal.end_of-first-requires-clause-within
end_of-first-requires-clause-within c =
    let s : IsSpot c.self.inside.entries.items c.args.o c.args.k =
    spot_of c.self.inside.entries.items c.self.inside.values c.self.inside.index.items c.self.inside.homes.items c.self.inside.arena.links c.args.self.now c.args.o c.args.k
    c.self.view_is c.requires.first_object c.requires.first_place in
    rw (c.deref.ensures.value, c.deref-2.ensures.value) (number_placed _ _ _ _ _ _ c.self.invariant.0 s)

pub end_of-second-requires-clause-small : goal.end_of-second-requires-clause-small
end_of-second-requires-clause-small c =
    let s : IsSpot c.self.inside.entries.items c.args.other c.args.place =
    spot_of c.self.inside.entries.items c.self.inside.values c.self.inside.index.items c.self.inside.homes.items c.self.inside.arena.links c.args.self.now c.args.other
    c.args.place c.self.view_is c.requires.second_object c.requires.second_place in
    rw c.deref-3.ensures.value (number_small _ _ _ _ _ _ c.self.invariant.0 s)

pub end_of-second-requires-clause-within : goal.end_of-second-requires-clause-within
end_of-second-requires-clause-within c =
    let s : IsSpot c.self.inside.entries.items c.args.other c.args.place =
    spot_of c.self.inside.entries.items c.self.inside.values c.self.inside.index.items c.self.inside.homes.items c.self.inside.arena.links c.args.self.now c.args.other
    c.args.place c.self.view_is c.requires.second_object c.requires.second_place in
    rw (c.deref-3.ensures.value, c.deref-4.ensures.value) (number_placed _ _ _ _ _ _ c.self.invariant.0 s)

pub is_joined-requires-clause-first_within : goal.is_joined-requires-clause-first_within
is_joined-requires-clause-first_within c =
    let s : IsSpot c.self.inside.entries.items c.args.o c.args.k =
    spot_of c.self.inside.entries.items c.self.inside.values c.self.inside.index.items c.self.inside.homes.items c.self.inside.arena.links c.args.self.now c.args.o c.args.k
    c.self.view_is c.requires.first_object c.requires.first_place in
    let e : c.end_of-first.result ≡ end_at c.self.inside.entries.items c.self.inside.index.items c.args.o c.args.k =
    rw (c.deref.ensures.value, c.deref-2.ensures.value) at c.end_of-first.ensures in
    rw (e, c.self.invariant.0.ends) (end_placed _ _ _ _ _ _ c.self.invariant.0 s)

pub is_joined-requires-clause-second_within : goal.is_joined-requires-clause-second_within
is_joined-requires-clause-second_within c =
    let s : IsSpot c.self.inside.entries.items c.args.other c.args.place =
    spot_of c.self.inside.entries.items c.self.inside.values c.self.inside.index.items c.self.inside.homes.items c.self.inside.arena.links c.args.self.now c.args.other
    c.args.place c.self.view_is c.requires.second_object c.requires.second_place in
    let e : c.end_of-second.result ≡ end_at c.self.inside.entries.items c.self.inside.index.items c.args.other c.args.place =
    rw (c.deref-3.ensures.value, c.deref-4.ensures.value) at c.end_of-second.ensures in
    rw (e, c.self.invariant.0.ends) (end_placed _ _ _ _ _ _ c.self.invariant.0 s)

pub returns : goal.returns
returns c =
    let s : IsSpot c.self.inside.entries.items c.args.o c.args.k =
    spot_of c.self.inside.entries.items c.self.inside.values c.self.inside.index.items c.self.inside.homes.items c.self.inside.arena.links c.args.self.now c.args.o c.args.k
    c.self.view_is c.requires.first_object c.requires.first_place in
    let t : IsSpot c.self.inside.entries.items c.args.other c.args.place =
    spot_of c.self.inside.entries.items c.self.inside.values c.self.inside.index.items c.self.inside.homes.items c.self.inside.arena.links c.args.self.now c.args.other
    c.args.place c.self.view_is c.requires.second_object c.requires.second_place in
    let e : c.end_of-first.result ≡ end_at c.self.inside.entries.items c.self.inside.index.items c.args.o c.args.k =
    rw (c.deref.ensures.value, c.deref-2.ensures.value) at c.end_of-first.ensures in
    let d : c.end_of-second.result ≡ end_at c.self.inside.entries.items c.self.inside.index.items c.args.other c.args.place =
    rw (c.deref-3.ensures.value, c.deref-4.ensures.value) at c.end_of-second.ensures in
    let there : IsTrue c.is_joined.result ↔ Contains (get_or c.self.inside.arena.links (end_at c.self.inside.entries.items c.self.inside.index.items c.args.o c.args.k) [])
    (end_at c.self.inside.entries.items c.self.inside.index.items c.args.other c.args.place) = rw (e, d) at c.is_joined.ensures in (
      (λ h. contains_seen c.self.inside.entries.items c.self.inside.values c.self.inside.index.items c.self.inside.homes.items c.self.inside.arena.links c.args.self.now
          c.args.o c.args.k c.args.other c.args.place c.self.invariant.0 c.self.view_is s t
          (others_some c.self.inside.arena.links _ _ c.end_count.ensures.simple c.self.invariant.0.blank (there.0 h)) (there.0 h)),
      (λ h. there.1 (contains_ends c.self.inside.entries.items c.self.inside.values c.self.inside.index.items c.self.inside.homes.items c.self.inside.arena.links
          c.args.self.now c.args.o c.args.k c.args.other c.args.place c.self.invariant.0 c.end_count.ensures.simple c.self.view_is s h)),
    )
