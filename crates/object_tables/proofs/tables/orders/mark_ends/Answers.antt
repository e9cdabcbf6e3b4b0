use Rattle.std.proofs.Common.{◌≡◌, ◌<◌, ◌∙◌, ℕ, List, length, sym, ap, subst}
use Rattle.std.specs.Prelude.{Contains}
use Rattle.std.proofs.lemmas.Iterator.Consumers.{YieldsList-turn, YieldsList-from_first}
use Rattle.std.proofs.lemmas.List.{length-set}
use Rattle.std.proofs.lemmas.List.Elements.{Contains-get_or, All-contains}
use Rattle.object_tables.specs.Flat.{home_at}
use Rattle.object_tables.proofs.OrderLemmas.{marked_more, given_more}
use Rattle.object_tables.proofs.tables.orders.mark_ends.Goals as goal

pub loop-end-preserved : goal.loop-end-preserved
loop-end-preserved c =
    let t = YieldsList-turn (YieldsList-from_first (λ (x : ℕ). x) (λ (xs : List ℕ). xs) c.args.ends c.into_iter-end-iterator.ensures.into_iter_gives) c.loop-end.yielded _ c.loop-end.yielded_by _ _ c.in-Some.end c.in-Some.is c.next.ensures.steps in
    let here : Contains c.args.ends c.in-Some.end = subst (Contains c.args.ends) (sym t.1) (Contains-get_or c.args.ends (length c.loop-end.yielded) c.in-Some.end t.0) in
    let room : (home_at c.args.homes.now c.in-Some.end).object < length c.args.marks.now =
    All-contains (λ e. (home_at c.args.homes.now e).object < length c.args.marks.now) c.args.ends c.in-Some.end c.requires.room here in
    let same : length c.loop-end.marks ≡ length c.args.marks.now = c.loop-end.invariant.room in
    record {
      room = ap length c.mark_end.ensures ∙ length-set c.loop-end.marks (home_at c.args.homes.now c.in-Some.end).object c.in-Some.end ∙ same;
      given = given_more c.args.ends c.loop-end.yielded c.in-Some.end c.loop-end.invariant.given here;
      marked = marked_more c.args.homes.now c.loop-end.marks c.mark_end.new.marks c.args.ends c.loop-end.yielded c.in-Some.end c.loop-end.invariant.marked
          (subst (λ (n : ℕ). (home_at c.args.homes.now c.in-Some.end).object < n) (sym same) room) c.mark_end.ensures c.loop-end.invariant.given here c.requires.apart;
    }
