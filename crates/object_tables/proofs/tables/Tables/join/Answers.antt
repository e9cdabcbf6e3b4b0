use Rattle.std.proofs.Common.{◌≡◌, ◌∙◌, ℕ, List, [], sym, ap, subst, get_or}
use Rattle.std.specs.Prelude.{Result, Ok, Err, OnErr, Contains}
use Rattle.link_arena.specs.Links.{Linkage}
use Rattle.object_tables.specs.declared.tables.Entry.{Entry}
use Rattle.object_tables.specs.Flat.{IsSpot, IsGrown, end_at, rows_of}
use Rattle.object_tables.proofs.ListLemmas.{on_ok}
use Rattle.object_tables.proofs.FlatLemmas.{spot_of, ends_apart, contains_seen, rows-joined_at}
use Rattle.object_tables.proofs.GrowLemmas.{rows_grown}
use Rattle.object_tables.proofs.tables.Tables.join.Goals as goal

on_err : {T E : Type 0} (r : Result T E) {P Q : Type 0} → (P → Q) → OnErr r P → OnErr r Q
on_err (Ok x) f h = h
on_err (Err e) f h = f h

on_any : {T E : Type 0} (r : Result T E) {P : Type 0} → P → OnErr r P
on_any (Ok x) h = tt
on_any (Err e) h = h

pub need_ends-requires-clause-spot : goal.need_ends-requires-clause-spot
need_ends-requires-clause-spot c =
    let s : IsSpot c.self.inside.entries.items c.args.o c.args.k =
    spot_of c.self.inside.entries.items c.self.inside.values c.self.inside.index.items c.self.inside.homes.items c.self.inside.arena.links c.args.self.now c.args.o c.args.k
    c.self.view_is c.requires.first_object c.requires.first_place in
    subst (λ (es : List Entry). IsSpot es c.args.o c.args.k) (sym c.deref.ensures.value) s

pub need_ends-requires-clause-other_spot : goal.need_ends-requires-clause-other_spot
need_ends-requires-clause-other_spot c =
    let t : IsSpot c.self.inside.entries.items c.args.other c.args.place =
    spot_of c.self.inside.entries.items c.self.inside.values c.self.inside.index.items c.self.inside.homes.items c.self.inside.arena.links c.args.self.now c.args.other
    c.args.place c.self.view_is c.requires.second_object c.requires.second_place in
    subst (λ (es : List Entry). IsSpot es c.args.other c.args.place) (sym c.deref.ensures.value) t

pub returns-in_err-first-clause-err : goal.returns-in_err-first-clause-err
returns-in_err-first-clause-err c =
    let g : IsGrown c.self.inside.entries.items c.self.inside.index.items c.self.inside.homes.items c.self.inside.arena.links c.need_ends.new.index.items
    c.need_ends.new.homes.items c.need_ends.new.arena.links = subst (λ (es : List Entry). IsGrown es c.self.inside.index.items c.self.inside.homes.items c.self.inside.arena.links
    c.need_ends.new.index.items c.need_ends.new.homes.items c.need_ends.new.arena.links) c.deref.ensures.value c.need_ends.ensures.grown in
    let seen : rows_of c.self.inside.entries.items c.self.inside.values c.need_ends.new.index.items c.need_ends.new.homes.items c.need_ends.new.arena.links ≡ c.args.self.now
    =
    rows_grown c.self.inside.entries.items c.self.inside.values c.self.inside.index.items c.need_ends.new.index.items c.self.inside.homes.items
    c.need_ends.new.homes.items c.self.inside.arena.links c.need_ends.new.arena.links c.args.self.now g c.self.view_is in
    on_any c.from_residual.result seen

pub join-requires-clause-apart : goal.join-requires-clause-apart
join-requires-clause-apart c =
    let s : IsSpot c.self.inside.entries.items c.args.o c.args.k =
    spot_of c.self.inside.entries.items c.self.inside.values c.self.inside.index.items c.self.inside.homes.items c.self.inside.arena.links c.args.self.now c.args.o c.args.k
    c.self.view_is c.requires.first_object c.requires.first_place in
    let t : IsSpot c.self.inside.entries.items c.args.other c.args.place =
    spot_of c.self.inside.entries.items c.self.inside.values c.self.inside.index.items c.self.inside.homes.items c.self.inside.arena.links c.args.self.now c.args.other
    c.args.place c.self.view_is c.requires.second_object c.requires.second_place in
    let g : IsGrown c.self.inside.entries.items c.self.inside.index.items c.self.inside.homes.items c.self.inside.arena.links c.need_ends.new.index.items
    c.need_ends.new.homes.items c.need_ends.new.arena.links = subst (λ (es : List Entry). IsGrown es c.self.inside.index.items c.self.inside.homes.items c.self.inside.arena.links
    c.need_ends.new.index.items c.need_ends.new.homes.items c.need_ends.new.arena.links) c.deref.ensures.value c.need_ends.ensures.grown in
    let e : c.in_ok-first.first ≡ end_at c.self.inside.entries.items c.need_ends.new.index.items c.args.o c.args.k =
    rw c.deref.ensures.value at c.in_ok-first.ensures.first in
    let d : c.in_ok-first.second ≡ end_at c.self.inside.entries.items c.need_ends.new.index.items c.args.other c.args.place =
    rw c.deref.ensures.value at c.in_ok-first.ensures.second in
    λ h. ends_apart _ _ _ _ _ _ _ _ g.flat s t (λ z. c.in_ok-first.ensures.second_some (d ∙ z)) c.requires.apart (sym e ∙ h ∙ d)

pub join-requires-clause-unjoined : goal.join-requires-clause-unjoined
join-requires-clause-unjoined c =
    let s : IsSpot c.self.inside.entries.items c.args.o c.args.k =
    spot_of c.self.inside.entries.items c.self.inside.values c.self.inside.index.items c.self.inside.homes.items c.self.inside.arena.links c.args.self.now c.args.o c.args.k
    c.self.view_is c.requires.first_object c.requires.first_place in
    let t : IsSpot c.self.inside.entries.items c.args.other c.args.place =
    spot_of c.self.inside.entries.items c.self.inside.values c.self.inside.index.items c.self.inside.homes.items c.self.inside.arena.links c.args.self.now c.args.other
    c.args.place c.self.view_is c.requires.second_object c.requires.second_place in
    let g : IsGrown c.self.inside.entries.items c.self.inside.index.items c.self.inside.homes.items c.self.inside.arena.links c.need_ends.new.index.items
    c.need_ends.new.homes.items c.need_ends.new.arena.links = subst (λ (es : List Entry). IsGrown es c.self.inside.index.items c.self.inside.homes.items c.self.inside.arena.links
    c.need_ends.new.index.items c.need_ends.new.homes.items c.need_ends.new.arena.links) c.deref.ensures.value c.need_ends.ensures.grown in
    let seen : rows_of c.self.inside.entries.items c.self.inside.values c.need_ends.new.index.items c.need_ends.new.homes.items c.need_ends.new.arena.links ≡ c.args.self.now
    =
    rows_grown c.self.inside.entries.items c.self.inside.values c.self.inside.index.items c.need_ends.new.index.items c.self.inside.homes.items
    c.need_ends.new.homes.items c.self.inside.arena.links c.need_ends.new.arena.links c.args.self.now g c.self.view_is in
    let e : c.in_ok-first.first ≡ end_at c.self.inside.entries.items c.need_ends.new.index.items c.args.o c.args.k =
    rw c.deref.ensures.value at c.in_ok-first.ensures.first in
    let d : c.in_ok-first.second ≡ end_at c.self.inside.entries.items c.need_ends.new.index.items c.args.other c.args.place =
    rw c.deref.ensures.value at c.in_ok-first.ensures.second in
    λ h. c.requires.unjoined
    (contains_seen c.self.inside.entries.items c.self.inside.values c.need_ends.new.index.items c.need_ends.new.homes.items c.need_ends.new.arena.links c.args.self.now
    c.args.o c.args.k c.args.other c.args.place g.flat seen s t (λ z. c.in_ok-first.ensures.second_some (d ∙ z))
    (subst (λ (x : ℕ). Contains (get_or c.need_ends.new.arena.links x []) (end_at c.self.inside.entries.items c.need_ends.new.index.items c.args.other c.args.place)) e
    (subst (λ (x : ℕ). Contains (get_or c.need_ends.new.arena.links c.in_ok-first.first []) x) d h)))

pub returns-clause-ok : goal.returns-clause-ok
returns-clause-ok c =
    let s : IsSpot c.self.inside.entries.items c.args.o c.args.k =
    spot_of c.self.inside.entries.items c.self.inside.values c.self.inside.index.items c.self.inside.homes.items c.self.inside.arena.links c.args.self.now c.args.o c.args.k
    c.self.view_is c.requires.first_object c.requires.first_place in
    let t : IsSpot c.self.inside.entries.items c.args.other c.args.place =
    spot_of c.self.inside.entries.items c.self.inside.values c.self.inside.index.items c.self.inside.homes.items c.self.inside.arena.links c.args.self.now c.args.other
    c.args.place c.self.view_is c.requires.second_object c.requires.second_place in
    let g : IsGrown c.self.inside.entries.items c.self.inside.index.items c.self.inside.homes.items c.self.inside.arena.links c.need_ends.new.index.items
    c.need_ends.new.homes.items c.need_ends.new.arena.links = subst (λ (es : List Entry). IsGrown es c.self.inside.index.items c.self.inside.homes.items c.self.inside.arena.links
    c.need_ends.new.index.items c.need_ends.new.homes.items c.need_ends.new.arena.links) c.deref.ensures.value c.need_ends.ensures.grown in
    let seen : rows_of c.self.inside.entries.items c.self.inside.values c.need_ends.new.index.items c.need_ends.new.homes.items c.need_ends.new.arena.links ≡ c.args.self.now
    =
    rows_grown c.self.inside.entries.items c.self.inside.values c.self.inside.index.items c.need_ends.new.index.items c.self.inside.homes.items
    c.need_ends.new.homes.items c.self.inside.arena.links c.need_ends.new.arena.links c.args.self.now g c.self.view_is in
    let e : c.in_ok-first.first ≡ end_at c.self.inside.entries.items c.need_ends.new.index.items c.args.o c.args.k =
    rw c.deref.ensures.value at c.in_ok-first.ensures.first in
    let d : c.in_ok-first.second ≡ end_at c.self.inside.entries.items c.need_ends.new.index.items c.args.other c.args.place =
    rw c.deref.ensures.value at c.in_ok-first.ensures.second in
    on_ok c.join.result
    (rows-joined_at c.self.inside.entries.items c.self.inside.values c.need_ends.new.index.items c.need_ends.new.homes.items c.need_ends.new.arena.links c.join.new.self.links
    c.args.self.now c.args.o c.args.k c.args.other c.args.place c.in_ok-first.first c.in_ok-first.second
    g.flat s t seen e d c.in_ok-first.ensures.first_some c.in_ok-first.ensures.second_some)
    (on_ok c.join.result (λ q. ap (λ (v : Linkage). v.links) q) c.join.ensures.ok)

pub returns-clause-err : goal.returns-clause-err
returns-clause-err c =
    let g : IsGrown c.self.inside.entries.items c.self.inside.index.items c.self.inside.homes.items c.self.inside.arena.links c.need_ends.new.index.items
    c.need_ends.new.homes.items c.need_ends.new.arena.links = subst (λ (es : List Entry). IsGrown es c.self.inside.index.items c.self.inside.homes.items c.self.inside.arena.links
    c.need_ends.new.index.items c.need_ends.new.homes.items c.need_ends.new.arena.links) c.deref.ensures.value c.need_ends.ensures.grown in
    let seen : rows_of c.self.inside.entries.items c.self.inside.values c.need_ends.new.index.items c.need_ends.new.homes.items c.need_ends.new.arena.links ≡ c.args.self.now
    =
    rows_grown c.self.inside.entries.items c.self.inside.values c.self.inside.index.items c.need_ends.new.index.items c.self.inside.homes.items
    c.need_ends.new.homes.items c.self.inside.arena.links c.need_ends.new.arena.links c.args.self.now g c.self.view_is in
    on_err c.join.result (λ q. ap (rows_of c.self.inside.entries.items c.self.inside.values c.need_ends.new.index.items c.need_ends.new.homes.items)
    (ap (λ (v : Linkage). v.links) q) ∙ seen) c.join.ensures.err
