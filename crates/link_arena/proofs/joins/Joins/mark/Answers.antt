use Rattle.std.proofs.Common.{arith, ◌≡◌, ◌<◌, ℕ, ◌⊎◌, ◌-◌, List, length, get_or, sym, subst, inl, inr}
use Rattle.link_arena.specs.Threads.{walk}
use Rattle.link_arena.specs.Lists.{nexts, list_of, owner_at}
use Rattle.link_arena.specs.Twins.{twin}
use Rattle.link_arena.proofs.Walks.{walk_here, walk_rest, walk_none}
use Rattle.link_arena.proofs.Marks.{mark_passed}
use Rattle.link_arena.proofs.Members.{IsIn, in_from, contains_in, listed_within, listed_twin}
use Rattle.link_arena.proofs.joins.Joins.mark.Goals as goal

pub loop-left-init : goal.loop-left-init
loop-left-init c = record { rest = λ s h. h; passed = λ s h. inl h }

pub returns : goal.returns
returns c = λ s h. elim (c.loop-left.invariant.passed s (in_from (list_of c.args.self.now.halves c.args.head) s h)) [
  | inl w ↦ absurd (walk_none (nexts c.args.self.now.halves) c.loop-left.left c.loop-left.at s (omega arith) w)
  | inr p ↦ p
]

pub mark_one-requires-clause-within : goal.mark_one-requires-clause-within
mark_one-requires-clause-within c =
    let here : IsIn c.loop-left.at (list_of c.args.self.now.halves c.args.head) = walk_here (nexts c.args.self.now.halves) (list_of c.args.self.now.halves c.args.head) c.loop-left.left c.loop-left.at (omega arith) c.loop-left.invariant.rest in
    listed_within c.requires.listed c.loop-left.at here

pub mark_one-requires-clause-twin_within : goal.mark_one-requires-clause-twin_within
mark_one-requires-clause-twin_within c =
    let here : IsIn c.loop-left.at (list_of c.args.self.now.halves c.args.head) = walk_here (nexts c.args.self.now.halves) (list_of c.args.self.now.halves c.args.head) c.loop-left.left c.loop-left.at (omega arith) c.loop-left.invariant.rest in
    listed_twin c.requires.listed c.loop-left.at here

pub mark_one-requires-clause-room : goal.mark_one-requires-clause-room
mark_one-requires-clause-room c =
    let here : IsIn c.loop-left.at (list_of c.args.self.now.halves c.args.head) = walk_here (nexts c.args.self.now.halves) (list_of c.args.self.now.halves c.args.head) c.loop-left.left c.loop-left.at (omega arith) c.loop-left.invariant.rest in
    let h : owner_at c.args.self.now.halves (twin c.loop-left.at) < length c.args.marks.now = c.requires.room c.loop-left.at (contains_in (list_of c.args.self.now.halves c.args.head) c.loop-left.at here) in omega arith

pub next_of-at-requires : goal.next_of-at-requires
next_of-at-requires c =
    let here : IsIn c.loop-left.at (list_of c.args.self.now.halves c.args.head) = walk_here (nexts c.args.self.now.halves) (list_of c.args.self.now.halves c.args.head) c.loop-left.left c.loop-left.at (omega arith) c.loop-left.invariant.rest in
    listed_within c.requires.listed c.loop-left.at here

pub loop-left-preserved : goal.loop-left-preserved
loop-left-preserved c =
    let here : IsIn c.loop-left.at (list_of c.args.self.now.halves c.args.head) = walk_here (nexts c.args.self.now.halves) (list_of c.args.self.now.halves c.args.head) c.loop-left.left c.loop-left.at (omega arith) c.loop-left.invariant.rest in
    let h : owner_at c.args.self.now.halves (twin c.loop-left.at) < length c.args.marks.now = c.requires.room c.loop-left.at (contains_in (list_of c.args.self.now.halves c.args.head) c.loop-left.at here) in
    let room : owner_at c.args.self.now.halves (twin c.loop-left.at) < length c.loop-left.marks = omega arith in
    record {
      rest = walk_rest (nexts c.args.self.now.halves) (list_of c.args.self.now.halves c.args.head) c.loop-left.left c.loop-left.at c.next_of-at.result (omega arith) c.next_of-at.ensures c.loop-left.invariant.rest;
      passed = λ s k.
          subst (λ (m : List ℕ). IsIn s (walk (nexts c.args.self.now.halves) (c.loop-left.left - 1) c.next_of-at.result) ⊎ (get_or m (owner_at c.args.self.now.halves (twin s)) 0 ≡ s)) (sym c.mark_one.ensures)
          (mark_passed (λ u. owner_at c.args.self.now.halves (twin u)) (nexts c.args.self.now.halves) (list_of c.args.self.now.halves c.args.head) c.loop-left.marks
          c.loop-left.left c.loop-left.at c.next_of-at.result (omega arith) c.next_of-at.ensures here room (λ s u hs hu e. c.requires.single s u (contains_in (list_of c.args.self.now.halves c.args.head) s hs) (contains_in (list_of c.args.self.now.halves c.args.head) u hu) e) c.loop-left.invariant.passed s k);
    }
