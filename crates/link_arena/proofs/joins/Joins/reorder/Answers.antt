use Rattle.std.specs.Prelude.{Contains}
use Rattle.link_arena.specs.declared.half.Head.{Head}
use Rattle.link_arena.specs.Lists.{head_at, list_of}
use Rattle.std.proofs.Common.{◌≡◌, ℕ, arith, ◌<◌, ◌+◌, length, subst, sym}
use Rattle.link_arena.specs.Lists.{owner_at}
use Rattle.link_arena.specs.Twins.{twin, IsListed, IsMarkedFor}
use Rattle.link_arena.proofs.Found.{in_list_at}
use Rattle.link_arena.proofs.Threaded.{list_at-is}
use Rattle.link_arena.proofs.InOrder.{listed_at, end_listed, end_single}
use Rattle.link_arena.proofs.Members.{in_from}
use Rattle.link_arena.proofs.joins.Joins.reorder.Goals as goal

pub mark-requires-clause-listed : goal.mark-requires-clause-listed
mark-requires-clause-listed c =
    subst (λ (h : Head). IsListed c.args.self.now.halves (list_of c.args.self.now.halves h)) (sym c.head.ensures)
    (end_listed c.args.self.now.heads c.args.self.now.halves c.requires.arena c.args.end (c.args.end + 1) (omega arith) c.requires.within)

pub mark-requires-clause-room : goal.mark-requires-clause-room
mark-requires-clause-room c = λ s h.
    let there : Contains (list_of c.args.self.now.halves (head_at c.args.self.now.heads (c.args.end + 1))) s =
    subst (λ (x : Head). Contains (list_of c.args.self.now.halves x) s) c.head.ensures h in
    let n : owner_at c.args.self.now.halves (twin s) < length c.args.self.now.heads = (listed_at c.args.self.now.heads c.args.self.now.halves c.requires.arena c.args.end (c.args.end + 1) (omega arith) c.requires.within s
    (in_list_at c.args.self.now.heads c.args.self.now.halves (c.args.end + 1) c.requires.within s (in_from (list_of c.args.self.now.halves (head_at c.args.self.now.heads (c.args.end + 1))) s there))).1.1 in
    omega arith

pub mark-requires-clause-single : goal.mark-requires-clause-single
mark-requires-clause-single c =
    subst (λ (h : Head). (s u : ℕ) → Contains (list_of c.args.self.now.halves h) s → Contains (list_of c.args.self.now.halves h) u
    → owner_at c.args.self.now.halves (twin s) ≡ owner_at c.args.self.now.halves (twin u) → s ≡ u) (sym c.head.ensures)
    (end_single c.args.self.now.heads c.args.self.now.halves c.requires.arena c.args.end (c.args.end + 1) (omega arith) c.requires.within)

pub put_in_order-requires-clause-marked : goal.put_in_order-requires-clause-marked
put_in_order-requires-clause-marked c =
    subst (IsMarkedFor c.args.self.now.halves c.mark.new.marks) (sym (list_at-is c.args.self.now.heads c.args.self.now.halves (c.args.end + 1) c.requires.within))
    (subst (λ (h : Head). IsMarkedFor c.args.self.now.halves c.mark.new.marks (list_of c.args.self.now.halves h)) c.head.ensures c.mark.ensures)

pub put_in_order-requires-clause-same : goal.put_in_order-requires-clause-same
put_in_order-requires-clause-same c = c.requires.same

pub returns-clause-view : goal.returns-clause-view
returns-clause-view c = c.put_in_order.ensures.view

pub returns-clause-same : goal.returns-clause-same
returns-clause-same c = c.put_in_order.ensures.same

pub returns-clause-free : goal.returns-clause-free
returns-clause-free c = c.put_in_order.ensures.free
