use Rattle.std.proofs.Common.{arith, ◌≢◌, ℕ, ◌<◌, length, sym, ◌∙◌, ap, subst, inl, inr}
use Rattle.link_arena.specs.Lists.{nexts, list_of, owner_at}
use Rattle.link_arena.specs.Twins.{twin}
use Rattle.link_arena.proofs.Walks.{walk_here, walk_rest, walk_passed, walk_none}
use Rattle.link_arena.proofs.Members.{IsIn, in_from, contains_in}
use Rattle.link_arena.proofs.joins.Joins.find.Goals as goal

pub loop-left-init : goal.loop-left-init
loop-left-init c = record { rest = λ s h. h; passed = λ s h. inl h }

pub owner_of-requires : goal.owner_of-requires
owner_of-requires c =
    let here : IsIn c.loop-left.at (list_of c.args.self.now.halves c.args.head) = walk_here (nexts c.args.self.now.halves) (list_of c.args.self.now.halves c.args.head) c.loop-left.left c.loop-left.at (omega arith) c.loop-left.invariant.rest in
    subst (λ (i : ℕ). i < length c.args.self.now.halves) (sym c.twin_of.ensures) (c.requires.within c.loop-left.at (contains_in (list_of c.args.self.now.halves c.args.head) c.loop-left.at here)).1

pub next_of-at-requires : goal.next_of-at-requires
next_of-at-requires c =
    let here : IsIn c.loop-left.at (list_of c.args.self.now.halves c.args.head) = walk_here (nexts c.args.self.now.halves) (list_of c.args.self.now.halves c.args.head) c.loop-left.left c.loop-left.at (omega arith) c.loop-left.invariant.rest in
    (c.requires.within c.loop-left.at (contains_in (list_of c.args.self.now.halves c.args.head) c.loop-left.at here)).0

pub returns-then-owner_of-id-clause-found : goal.returns-then-owner_of-id-clause-found
returns-then-owner_of-id-clause-found c =
    let here : IsIn c.loop-left.at (list_of c.args.self.now.halves c.args.head) = walk_here (nexts c.args.self.now.halves) (list_of c.args.self.now.halves c.args.head) c.loop-left.left c.loop-left.at (omega arith) c.loop-left.invariant.rest in
    (contains_in (list_of c.args.self.now.halves c.args.head) c.loop-left.at here, ap (λ (i : ℕ). owner_at c.args.self.now.halves i) (sym c.twin_of.ensures) ∙ (sym c.owner_of.ensures ∙ c.if-owner_of-id.true))

pub loop-left-preserved : goal.loop-left-preserved
loop-left-preserved c = record {
  rest = walk_rest (nexts c.args.self.now.halves) (list_of c.args.self.now.halves c.args.head) c.loop-left.left c.loop-left.at c.next_of-at.result (omega arith) c.next_of-at.ensures c.loop-left.invariant.rest;
  passed = walk_passed (λ s. owner_at c.args.self.now.halves (twin s) ≢ c.args.id) (nexts c.args.self.now.halves) (list_of c.args.self.now.halves c.args.head) c.loop-left.left c.loop-left.at c.next_of-at.result (omega arith) c.next_of-at.ensures (λ e. c.if-owner_of-id.false (c.owner_of.ensures ∙ (ap (λ (i : ℕ). owner_at c.args.self.now.halves i) c.twin_of.ensures ∙ e))) c.loop-left.invariant.passed;
}

pub returns-clause-none : goal.returns-clause-none
returns-clause-none c = λ s h. elim (c.loop-left.invariant.passed s (in_from (list_of c.args.self.now.halves c.args.head) s h)) [
  | inl w ↦ absurd (walk_none (nexts c.args.self.now.halves) c.loop-left.left c.loop-left.at s (omega arith) w)
  | inr p ↦ p
]
