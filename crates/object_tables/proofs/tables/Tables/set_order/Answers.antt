use Rattle.std.proofs.Common.{◌≡◌, ◌≤◌, ◌∙◌, ℕ, List, [], length, get_or, map, ap, subst, arith}
use Rattle.std.proofs.lemmas.List.{with_items_is, length-set}
use Rattle.std.specs.Prelude.{IsPermutation}
use Rattle.link_arena.specs.Links.{Linkage}
use Rattle.object_tables.specs.Flat.{IsSpot, end_at}
use Rattle.object_tables.specs.Orders.{IsMarkedFor}
use Rattle.object_tables.specs.declared.tables.Home.{Home}
use Rattle.object_tables.proofs.FlatLemmas.{spot_of, number_small, number_placed, end_placed, others_all, flat-links}
use Rattle.object_tables.proofs.OrderLemmas.{ends_of_objects, objects_all, blank_ordered, order_all, order_few, ends_in_order, reordered}
use Rattle.object_tables.proofs.tables.Tables.set_order.Goals as goal

pub end_of-end-requires-clause-small : goal.end_of-end-requires-clause-small
end_of-end-requires-clause-small c =
    let s : IsSpot c.self.inside.entries.items c.args.o c.args.k =
    spot_of c.self.inside.entries.items c.self.inside.values c.self.inside.index.items c.self.inside.homes.items c.self.inside.arena.links c.args.self.now c.args.o c.args.k
    c.self.view_is c.requires.object c.requires.place in
    rw c.deref.ensures.value (number_small _ _ _ _ _ _ c.self.invariant.0 s)

pub end_of-end-requires-clause-within : goal.end_of-end-requires-clause-within
end_of-end-requires-clause-within c =
    let s : IsSpot c.self.inside.entries.items c.args.o c.args.k =
    spot_of c.self.inside.entries.items c.self.inside.values c.self.inside.index.items c.self.inside.homes.items c.self.inside.arena.links c.args.self.now c.args.o c.args.k
    c.self.view_is c.requires.object c.requires.place in
    rw (c.deref.ensures.value, c.deref-2.ensures.value) (number_placed _ _ _ _ _ _ c.self.invariant.0 s)

pub others-requires : goal.others-requires
others-requires c =
    let s : IsSpot c.self.inside.entries.items c.args.o c.args.k =
    spot_of c.self.inside.entries.items c.self.inside.values c.self.inside.index.items c.self.inside.homes.items c.self.inside.arena.links c.args.self.now c.args.o c.args.k
    c.self.view_is c.requires.object c.requires.place in
    let e : c.end_of-end.result ≡ end_at c.self.inside.entries.items c.self.inside.index.items c.args.o c.args.k =
    rw (c.deref.ensures.value, c.deref-2.ensures.value) at c.end_of-end.ensures in
    rw (e, c.self.invariant.0.ends) (end_placed _ _ _ _ _ _ c.self.invariant.0 s)

pub mark_ends-requires-clause-within : goal.mark_ends-requires-clause-within
mark_ends-requires-clause-within c =
    rw c.deref-3.ensures.value (others_all c.self.inside.homes.items c.self.inside.arena.links c.others.result c.end_of-end.result c.self.invariant.0.ends
    c.others.ensures.simple c.others.ensures.list)

pub mark_ends-requires-clause-apart : goal.mark_ends-requires-clause-apart
mark_ends-requires-clause-apart c =
    let s : IsSpot c.self.inside.entries.items c.args.o c.args.k =
    spot_of c.self.inside.entries.items c.self.inside.values c.self.inside.index.items c.self.inside.homes.items c.self.inside.arena.links c.args.self.now c.args.o c.args.k
    c.self.view_is c.requires.object c.requires.place in
    let e : c.end_of-end.result ≡ end_at c.self.inside.entries.items c.self.inside.index.items c.args.o c.args.k =
    rw (c.deref.ensures.value, c.deref-2.ensures.value) at c.end_of-end.ensures in
    rw c.deref-3.ensures.value
    (ends_of_objects c.self.inside.entries.items c.self.inside.values c.self.inside.index.items c.self.inside.homes.items c.self.inside.arena.links c.args.self.now c.args.o
    c.args.k c.others.result c.self.invariant.0 c.others.ensures.simple c.self.view_is s c.requires.apart
    (c.others.ensures.list ∙ ap (λ x. get_or c.self.inside.arena.links x []) e))

pub mark_ends-requires-clause-room : goal.mark_ends-requires-clause-room
mark_ends-requires-clause-room c =
    let n = c.as_mut_slice.ensures.len in
    let m = c.self.invariant.2 in
    let v = c.self.inside.marks.ok.0 in
    rw c.deref-3.ensures.value
    (objects_all c.self.inside.entries.items c.self.inside.values c.self.inside.index.items c.self.inside.homes.items c.self.inside.arena.links c.others.result
    c.end_of-end.result (length c.as_mut_slice.result.now) c.self.invariant.0 c.others.ensures.simple c.others.ensures.list (omega arith))

pub list_ends-requires-clause-within : goal.list_ends-requires-clause-within
list_ends-requires-clause-within c =
    let s : IsSpot c.self.inside.entries.items c.args.o c.args.k =
    spot_of c.self.inside.entries.items c.self.inside.values c.self.inside.index.items c.self.inside.homes.items c.self.inside.arena.links c.args.self.now c.args.o c.args.k
    c.self.view_is c.requires.object c.requires.place in
    let room : length c.self.inside.entries.items ≤ length c.as_slice.result.now = (let m = c.self.invariant.2 in let n = c.as_slice.ensures.len in omega arith) in
    order_all c.self.inside.entries.items c.self.inside.values c.self.inside.index.items c.self.inside.homes.items c.self.inside.arena.links c.args.self.now c.args.o
    c.args.k (length c.as_slice.result.now) c.args.order.now c.self.invariant.0 c.others.ensures.simple c.self.view_is s c.requires.same room

pub list_ends-requires-clause-room : goal.list_ends-requires-clause-room
list_ends-requires-clause-room c =
    let s : IsSpot c.self.inside.entries.items c.args.o c.args.k =
    spot_of c.self.inside.entries.items c.self.inside.values c.self.inside.index.items c.self.inside.homes.items c.self.inside.arena.links c.args.self.now c.args.o c.args.k
    c.self.view_is c.requires.object c.requires.place in
    order_few c.self.inside.entries.items c.self.inside.values c.self.inside.index.items c.self.inside.homes.items c.self.inside.arena.links c.args.self.now c.args.o
    c.args.k _ c.args.order.now c.self.invariant.0 c.others.ensures.simple c.self.view_is s c.requires.apart c.requires.same c.self.invariant.3

pub set_order-requires-clause-within : goal.set_order-requires-clause-within
set_order-requires-clause-within c =
    let s : IsSpot c.self.inside.entries.items c.args.o c.args.k =
    spot_of c.self.inside.entries.items c.self.inside.values c.self.inside.index.items c.self.inside.homes.items c.self.inside.arena.links c.args.self.now c.args.o c.args.k
    c.self.view_is c.requires.object c.requires.place in
    let e : c.end_of-end.result ≡ end_at c.self.inside.entries.items c.self.inside.index.items c.args.o c.args.k =
    rw (c.deref.ensures.value, c.deref-2.ensures.value) at c.end_of-end.ensures in
    rw (e, c.self.invariant.0.ends) (end_placed _ _ _ _ _ _ c.self.invariant.0 s)

pub set_order-requires-clause-same : goal.set_order-requires-clause-same
set_order-requires-clause-same c =
    let s : IsSpot c.self.inside.entries.items c.args.o c.args.k =
    spot_of c.self.inside.entries.items c.self.inside.values c.self.inside.index.items c.self.inside.homes.items c.self.inside.arena.links c.args.self.now c.args.o c.args.k
    c.self.view_is c.requires.object c.requires.place in
    let e : c.end_of-end.result ≡ end_at c.self.inside.entries.items c.self.inside.index.items c.args.o c.args.k =
    rw (c.deref.ensures.value, c.deref-2.ensures.value) at c.end_of-end.ensures in
    let marked : IsMarkedFor c.self.inside.homes.items c.mark_ends.new.marks c.others.result =
    subst (λ (hs : List Home). IsMarkedFor hs c.mark_ends.new.marks c.others.result) c.deref-3.ensures.value c.mark_ends.ensures in
    let listed : c.as_slice-2.result.now ≡ map (λ b. get_or c.mark_ends.new.marks b.0 0) c.args.order.now =
    c.as_slice-2.ensures.value ∙ c.list_ends.ensures.items ∙ ap (λ (ms : List ℕ). map (λ b. get_or ms b.0 0) c.args.order.now) (c.as_slice.ensures.value
    ∙ with_items_is c.self.inside.marks c.mark_ends.new.marks (omega arith)) in
    ends_in_order c.self.inside.entries.items c.self.inside.values c.self.inside.index.items c.self.inside.homes.items c.self.inside.arena.links c.args.self.now c.args.o
    c.args.k c.end_of-end.result c.others.result c.mark_ends.new.marks c.as_slice-2.result.now c.args.order.now
    c.self.view_is s c.requires.same e c.others.ensures.list marked listed

pub invariant_of-self : goal.invariant_of-self
invariant_of-self c =
    let s : IsSpot c.self.inside.entries.items c.args.o c.args.k =
    spot_of c.self.inside.entries.items c.self.inside.values c.self.inside.index.items c.self.inside.homes.items c.self.inside.arena.links c.args.self.now c.args.o c.args.k
    c.self.view_is c.requires.object c.requires.place in
    let e : c.end_of-end.result ≡ end_at c.self.inside.entries.items c.self.inside.index.items c.args.o c.args.k =
    rw (c.deref.ensures.value, c.deref-2.ensures.value) at c.end_of-end.ensures in
    let marked : IsMarkedFor c.self.inside.homes.items c.mark_ends.new.marks c.others.result =
    subst (λ (hs : List Home). IsMarkedFor hs c.mark_ends.new.marks c.others.result) c.deref-3.ensures.value c.mark_ends.ensures in
    let listed : c.as_slice-2.result.now ≡ map (λ b. get_or c.mark_ends.new.marks b.0 0) c.args.order.now =
    c.as_slice-2.ensures.value ∙ c.list_ends.ensures.items ∙ ap (λ (ms : List ℕ). map (λ b. get_or ms b.0 0) c.args.order.now) (c.as_slice.ensures.value
    ∙ with_items_is c.self.inside.marks c.mark_ends.new.marks (omega arith)) in
    let same : IsPermutation c.as_slice-2.result.now (get_or c.self.inside.arena.links c.end_of-end.result []) =
    ends_in_order c.self.inside.entries.items c.self.inside.values c.self.inside.index.items c.self.inside.homes.items c.self.inside.arena.links c.args.self.now c.args.o
    c.args.k c.end_of-end.result c.others.result c.mark_ends.new.marks c.as_slice-2.result.now c.args.order.now
    c.self.view_is s c.requires.same e c.others.ensures.list marked listed in (
      flat-links _ _ _ c.self.inside.arena.links c.set_order.new.self.links c.self.invariant.0 (ap length (ap (λ (v : Linkage). v.links) c.set_order.ensures)
          ∙ length-set c.self.inside.arena.links c.end_of-end.result c.as_slice-2.result.now)
          (blank_ordered c.self.inside.arena.links c.set_order.new.self.links c.as_slice-2.result.now c.end_of-end.result same (ap (λ (v : Linkage). v.links) c.set_order.ensures) c.self.invariant.0.blank),
      c.self.invariant.1,
      (let w = ap length (with_items_is c.self.inside.marks c.mark_ends.new.marks (omega arith)) in let m = c.self.invariant.2 in omega arith),
      (let q = c.list_ends.ensures.capacity in let m = c.self.invariant.3 in omega arith),
    )

pub returns : goal.returns
returns c =
    let s : IsSpot c.self.inside.entries.items c.args.o c.args.k =
    spot_of c.self.inside.entries.items c.self.inside.values c.self.inside.index.items c.self.inside.homes.items c.self.inside.arena.links c.args.self.now c.args.o c.args.k
    c.self.view_is c.requires.object c.requires.place in
    let e : c.end_of-end.result ≡ end_at c.self.inside.entries.items c.self.inside.index.items c.args.o c.args.k =
    rw (c.deref.ensures.value, c.deref-2.ensures.value) at c.end_of-end.ensures in
    let marked : IsMarkedFor c.self.inside.homes.items c.mark_ends.new.marks c.others.result =
    subst (λ (hs : List Home). IsMarkedFor hs c.mark_ends.new.marks c.others.result) c.deref-3.ensures.value c.mark_ends.ensures in
    let listed : c.as_slice-2.result.now ≡ map (λ b. get_or c.mark_ends.new.marks b.0 0) c.args.order.now =
    c.as_slice-2.ensures.value ∙ c.list_ends.ensures.items ∙ ap (λ (ms : List ℕ). map (λ b. get_or ms b.0 0) c.args.order.now) (c.as_slice.ensures.value
    ∙ with_items_is c.self.inside.marks c.mark_ends.new.marks (omega arith)) in
    reordered c.self.inside.entries.items c.self.inside.values c.self.inside.index.items c.self.inside.homes.items c.self.inside.arena.links c.set_order.new.self.links
    c.args.self.now c.args.o c.args.k c.end_of-end.result c.others.result c.mark_ends.new.marks c.as_slice-2.result.now c.args.order.now
    c.self.invariant.0 c.self.view_is s c.requires.same e c.others.ensures.list marked listed (ap (λ (v : Linkage). v.links) c.set_order.ensures)
