use Rattle.std.proofs.Common.{◌≡◌, ◌≤◌, ℕ, List, length, refl, sym, ◌∙◌, ap, subst, arith}
use Rattle.std.specs.Vec.{with_items}
use Rattle.std.proofs.lemmas.List.{with_items_is}
use Rattle.call_graph.specs.declared.standing.Standing.{Standing}
use Rattle.call_graph.specs.Tops.{IsOpenWhen, IsGroupTop, AreWhensDone, AreSettled}
use Rattle.call_graph.specs.Walks.{standing_at, new_count}
use Rattle.call_graph.proofs.walk.close.Goals as goal

pub returns-in-Some : goal.returns-in-Some
returns-in-Some c =
    subst (λ (k : List ℕ). IsOpenWhen c.args.whens.now c.args.walk.now.standings.items k c.args.from c.in-Some.u) c.as_slice-2.ensures
    (subst (λ (s : List Standing). IsOpenWhen c.args.whens.now s c.as_slice-2.result.now c.args.from c.in-Some.u) c.as_slice.ensures.value c.in-Some.ensures)

pub need_of_group-stratum-requires-clause-short : goal.need_of_group-stratum-requires-clause-short
need_of_group-stratum-requires-clause-short c = λ w stratum is.
    let room = c.requires.room w stratum (ap (λ (s : List Standing). standing_at s w) (sym c.as_slice-in-None.ensures.value) ∙ is) in
    let same : length c.as_slice-in-None.result.now ≡ length c.args.walk.now.standings.items = ap length c.as_slice-in-None.ensures.value in
    omega (arith, room, same, c.as_slice-in-None.type_inv)

pub returns-in-None : goal.returns-in-None
returns-in-None c =
    let whens = c.args.whens.now in
    let wheres = c.args.wheres.now in
    let table = c.args.walk.now.standings in
    let standings = c.args.walk.now.standings.items in
    let given : List Standing = c.settle.new.standings in
    let same : length c.as_mut_slice.result.now ≡ length standings = ap length c.as_mut_slice.ensures.value in
    let long : length given ≡ length standings = omega (arith, same, c.settle.auto.standings) in
    let items : (with_items table given).items ≡ given = with_items_is table given (omega (arith, long, table.ok.0)) in
    record {
      whens_done = subst (λ (k : List ℕ). AreWhensDone whens standings k c.args.from (length k)) c.as_slice-2.ensures
          (subst (λ (s : List Standing). AreWhensDone whens s c.as_slice-2.result.now c.args.from (length c.as_slice-2.result.now)) c.as_slice.ensures.value c.in-None.ensures);
      top = (
        c.need_of_group-stratum.result,
        subst (λ (k : List ℕ). IsGroupTop whens wheres standings k c.args.from (length k) c.need_of_group-stratum.result) c.as_slice-in-None-2.ensures
            (subst (λ (s : List Standing). IsGroupTop whens wheres s c.as_slice-in-None-2.result.now c.args.from (length c.as_slice-in-None-2.result.now) c.need_of_group-stratum.result) c.as_slice-in-None.ensures.value
            c.need_of_group-stratum.ensures),
        subst (λ (t : List Standing). AreSettled standings t c.args.walk.now.stack c.args.from c.need_of_group-stratum.result) (sym items)
            (subst (λ (s : List Standing). AreSettled s given c.args.walk.now.stack c.args.from c.need_of_group-stratum.result) c.as_mut_slice.ensures.value c.settle.ensures.settled),
      );
      long = ap length items ∙ long;
      fewer = subst (λ (t : List Standing). new_count t ≤ new_count standings) (sym items) (subst (λ (s : List Standing). new_count given ≤ new_count s) c.as_mut_slice.ensures.value c.settle.ensures.fewer);
      passed = refl;
      stack = c.settle.ensures.stack;
      path = refl;
    }
