use Rattle.std.proofs.Common.{◌≡◌, ◌+◌, ℕ, List, arith, refl, ◌∙◌, ap, subst, ◌++◌, ◌∷◌, [], Some, length, replicate}
use Rattle.std.proofs.lemmas.List.{length_push, length-append, length-replicate}
use Rattle.object_tables.specs.declared.tables.Entry.{Entry}
use Rattle.object_tables.specs.Flat.{IsGrown, rows_of}
use Rattle.object_tables.proofs.FlatLemmas.{flat-add_at, rows-add_at}
use Rattle.object_tables.proofs.GrowLemmas.{rows_grown}
use Rattle.object_tables.proofs.tables.Tables.add.Goals as goal

pub invariant_of-self-in-Ok-add : goal.invariant_of-self-in-Ok-add
invariant_of-self-in-Ok-add c =
    let g : IsGrown c.self.inside.entries.items c.self.inside.index.items c.self.inside.homes.items c.self.inside.arena.links c.self.inside.index.items
    c.need_no_end.new.homes.items c.need_no_end.new.arena.links =
    subst (λ (es : List Entry). IsGrown es c.self.inside.index.items c.self.inside.homes.items c.self.inside.arena.links c.self.inside.index.items
    c.need_no_end.new.homes.items c.need_no_end.new.arena.links) (c.deref.ensures.value ∙ c.reserve.ensures.items)
    (subst (λ (ix : List ℕ). IsGrown c.deref.result.now ix c.self.inside.homes.items c.self.inside.arena.links ix c.need_no_end.new.homes.items c.need_no_end.new.arena.links)
    (c.deref-2.ensures.value ∙ c.reserve-2.ensures.items) c.need_no_end.ensures.grown) in
    let first : c.len-first.result ≡ length c.self.inside.index.items = c.len-first.ensures ∙ c.self.inside.index.ok.0 in
    let entries : c.push_reserved.new.self.items ≡ c.self.inside.entries.items ++ record {
      named = Some c.args.named;
      first = c.len-first.result;
      count =
          c.args.count;
    } ∷ [] =
    c.push_reserved.ensures.items ∙ ap (λ es. es ++ record {
      named = Some c.args.named;
      first = c.len-first.result;
      count =
          c.args.count;
    } ∷ []) c.reserve.ensures.items in
    let index : c.push_zeros.new.index.items ≡ c.self.inside.index.items ++ replicate c.args.count 0 = c.push_zeros.ensures
    ∙ ap (λ xs. xs ++ replicate c.args.count 0) c.reserve-2.ensures.items in
    let more : length c.push_reserved.new.self.items ≡ length c.self.inside.entries.items + 1 = ap length entries ∙ length_push c.self.inside.entries.items _ in
    let objects : c.len-objects.result ≡ length c.self.inside.entries.items = c.len-objects.ensures ∙ c.reserve.new.self.ok.0 ∙ ap length c.reserve.ensures.items in
    let values : length c.add.new.self ≡ length c.self.inside.values + c.args.count = ap length c.in-Ok-add.ensures.ok
    ∙ length-append c.self.inside.values (replicate c.args.count []) ∙ ap (λ n. length c.self.inside.values + n) (length-replicate c.args.count []) in
    let places : length c.push_zeros.new.index.items ≡ length c.self.inside.index.items + c.args.count = ap length index
    ∙ length-append c.self.inside.index.items (replicate c.args.count 0) ∙ ap (λ n. length c.self.inside.index.items + n) (length-replicate c.args.count 0) in
    let both = c.self.invariant.1 in
    let marks = c.in-Ok.ensures.marks in
    let order = c.in-Ok.ensures.order in (
      flat-add_at _ _ _ _ _ _ c.args.named c.args.count c.len-first.result g.flat c.in-Ok-need_no_end.ensures.some (let t =
          c.if-count-first.false in omega arith) first entries index,
      omega arith,
      omega arith,
      omega arith,
    )

pub returns-in-Ok-add-clause-ok : goal.returns-in-Ok-add-clause-ok
returns-in-Ok-add-clause-ok c =
    let g : IsGrown c.self.inside.entries.items c.self.inside.index.items c.self.inside.homes.items c.self.inside.arena.links c.self.inside.index.items
    c.need_no_end.new.homes.items c.need_no_end.new.arena.links =
    subst (λ (es : List Entry). IsGrown es c.self.inside.index.items c.self.inside.homes.items c.self.inside.arena.links c.self.inside.index.items
    c.need_no_end.new.homes.items c.need_no_end.new.arena.links) (c.deref.ensures.value ∙ c.reserve.ensures.items)
    (subst (λ (ix : List ℕ). IsGrown c.deref.result.now ix c.self.inside.homes.items c.self.inside.arena.links ix c.need_no_end.new.homes.items c.need_no_end.new.arena.links)
    (c.deref-2.ensures.value ∙ c.reserve-2.ensures.items) c.need_no_end.ensures.grown) in
    let seen : rows_of c.self.inside.entries.items c.self.inside.values c.self.inside.index.items c.need_no_end.new.homes.items c.need_no_end.new.arena.links ≡
    c.args.self.now =
    rows_grown c.self.inside.entries.items c.self.inside.values c.self.inside.index.items c.self.inside.index.items c.self.inside.homes.items
    c.need_no_end.new.homes.items c.self.inside.arena.links c.need_no_end.new.arena.links c.args.self.now g c.self.view_is in
    let first : c.len-first.result ≡ length c.self.inside.index.items = c.len-first.ensures ∙ c.self.inside.index.ok.0 in
    let entries : c.push_reserved.new.self.items ≡ c.self.inside.entries.items ++ record {
      named = Some c.args.named;
      first = c.len-first.result;
      count =
          c.args.count;
    } ∷ [] =
    c.push_reserved.ensures.items ∙ ap (λ es. es ++ record {
      named = Some c.args.named;
      first = c.len-first.result;
      count =
          c.args.count;
    } ∷ []) c.reserve.ensures.items in
    let index : c.push_zeros.new.index.items ≡ c.self.inside.index.items ++ replicate c.args.count 0 = c.push_zeros.ensures
    ∙ ap (λ xs. xs ++ replicate c.args.count 0) c.reserve-2.ensures.items in
    rows-add_at c.self.inside.entries.items c.push_reserved.new.self.items c.self.inside.values c.add.new.self c.self.inside.index.items c.push_zeros.new.index.items
    c.need_no_end.new.homes.items c.need_no_end.new.arena.links c.args.self.now c.args.named c.args.count c.len-first.result
    g.flat c.self.invariant.1 seen first entries c.in-Ok-add.ensures.ok index

pub returns-in_default-need_no_end-clause-err : goal.returns-in_default-need_no_end-clause-err
returns-in_default-need_no_end-clause-err c =
    let g : IsGrown c.self.inside.entries.items c.self.inside.index.items c.self.inside.homes.items c.self.inside.arena.links c.self.inside.index.items
    c.need_no_end.new.homes.items c.need_no_end.new.arena.links =
    subst (λ (es : List Entry). IsGrown es c.self.inside.index.items c.self.inside.homes.items c.self.inside.arena.links c.self.inside.index.items
    c.need_no_end.new.homes.items c.need_no_end.new.arena.links) (c.deref.ensures.value ∙ c.reserve.ensures.items)
    (subst (λ (ix : List ℕ). IsGrown c.deref.result.now ix c.self.inside.homes.items c.self.inside.arena.links ix c.need_no_end.new.homes.items c.need_no_end.new.arena.links)
    (c.deref-2.ensures.value ∙ c.reserve-2.ensures.items) c.need_no_end.ensures.grown) in
    let seen : rows_of c.self.inside.entries.items c.self.inside.values c.self.inside.index.items c.need_no_end.new.homes.items c.need_no_end.new.arena.links ≡
    c.args.self.now =
    rows_grown c.self.inside.entries.items c.self.inside.values c.self.inside.index.items c.self.inside.index.items c.self.inside.homes.items
    c.need_no_end.new.homes.items c.self.inside.arena.links c.need_no_end.new.arena.links c.args.self.now g c.self.view_is in
    (rw (c.reserve.ensures.items, c.reserve-2.ensures.items) seen, refl)

pub returns-in-Err-clause-err : goal.returns-in-Err-clause-err
returns-in-Err-clause-err c =
    let g : IsGrown c.self.inside.entries.items c.self.inside.index.items c.self.inside.homes.items c.self.inside.arena.links c.self.inside.index.items
    c.need_no_end.new.homes.items c.need_no_end.new.arena.links =
    subst (λ (es : List Entry). IsGrown es c.self.inside.index.items c.self.inside.homes.items c.self.inside.arena.links c.self.inside.index.items
    c.need_no_end.new.homes.items c.need_no_end.new.arena.links) (c.deref.ensures.value ∙ c.reserve.ensures.items)
    (subst (λ (ix : List ℕ). IsGrown c.deref.result.now ix c.self.inside.homes.items c.self.inside.arena.links ix c.need_no_end.new.homes.items c.need_no_end.new.arena.links)
    (c.deref-2.ensures.value ∙ c.reserve-2.ensures.items) c.need_no_end.ensures.grown) in
    let seen : rows_of c.self.inside.entries.items c.self.inside.values c.self.inside.index.items c.need_no_end.new.homes.items c.need_no_end.new.arena.links ≡
    c.args.self.now =
    rows_grown c.self.inside.entries.items c.self.inside.values c.self.inside.index.items c.self.inside.index.items c.self.inside.homes.items
    c.need_no_end.new.homes.items c.self.inside.arena.links c.need_no_end.new.arena.links c.args.self.now g c.self.view_is in
    (rw (c.reserve.ensures.items, c.reserve-2.ensures.items, c.in-Err.ensures.err) seen, refl)
