use Rattle.std.proofs.Common.{arith, ◌≡◌, ◌+◌, ◌<◌, ℕ, length, subst, suc, sym}
use Rattle.link_arena.proofs.Arenas.{joined_steps, twin_in}
use Rattle.link_arena.proofs.Free.{same_twice, free_joined}
use Rattle.link_arena.proofs.joins.Joins.join_by.Goals as goal

pub returns-clause-arena : goal.returns-clause-arena
returns-clause-arena c =
    let a : c.args.first + 1 ≡ suc c.args.first = omega arith in
    let b : c.args.second + 1 ≡ suc c.args.second = omega arith in
    (joined_steps c.args.self.now.heads c.args.self.now.halves c.move_to.new.self.heads c.move_to.new.self.halves c.move_to-2.new.self.heads c.move_to-2.new.self.halves
    c.args.at c.twin_of-twin.result c.args.first c.args.second (c.args.first + 1) (c.args.second + 1) a b c.twin_of-twin.ensures
    c.requires.arena c.requires.half_within c.requires.free c.requires.first_within c.requires.second_within c.requires.apart
    c.requires.unjoined c.move_to-2.ensures.filed c.move_to.ensures.lists c.move_to.ensures.owners c.move_to-2.ensures.lists
    c.move_to-2.ensures.owners).arena

pub returns-clause-view : goal.returns-clause-view
returns-clause-view c =
    let a : c.args.first + 1 ≡ suc c.args.first = omega arith in
    let b : c.args.second + 1 ≡ suc c.args.second = omega arith in
    (joined_steps c.args.self.now.heads c.args.self.now.halves c.move_to.new.self.heads c.move_to.new.self.halves c.move_to-2.new.self.heads c.move_to-2.new.self.halves
    c.args.at c.twin_of-twin.result c.args.first c.args.second (c.args.first + 1) (c.args.second + 1) a b c.twin_of-twin.ensures
    c.requires.arena c.requires.half_within c.requires.free c.requires.first_within c.requires.second_within c.requires.apart
    c.requires.unjoined c.move_to-2.ensures.filed c.move_to.ensures.lists c.move_to.ensures.owners c.move_to-2.ensures.lists
    c.move_to-2.ensures.owners).view

pub move_to-requires-clause-filed : goal.move_to-requires-clause-filed
move_to-requires-clause-filed c = c.requires.arena.filed

pub move_to-requires-2-clause-filed : goal.move_to-requires-2-clause-filed
move_to-requires-2-clause-filed c = c.move_to.ensures.filed

pub move_to-requires-2-clause-within : goal.move_to-requires-2-clause-within
move_to-requires-2-clause-within c = subst (λ (n : ℕ). c.args.second + 1 < n) (sym c.move_to.ensures.same.lists) c.requires.second_within

pub move_to-requires-2-clause-half_within : goal.move_to-requires-2-clause-half_within
move_to-requires-2-clause-half_within c =
    subst (λ (n : ℕ). c.twin_of-twin.result < n) (sym c.move_to.ensures.half_count)
    (subst (λ (t : ℕ). t < length c.args.self.now.halves) (sym c.twin_of-twin.ensures) (twin_in c.args.self.now.heads c.args.self.now.halves c.requires.arena c.args.at c.requires.half_within))

pub returns-clause-same : goal.returns-clause-same
returns-clause-same c = same_twice c.args.self.now c.move_to.new.self c.move_to-2.new.self c.move_to.ensures.same c.move_to-2.ensures.same

pub returns-clause-free : goal.returns-clause-free
returns-clause-free c =
    free_joined c.args.self.now c.move_to.new.self c.move_to-2.new.self c.args.at c.twin_of-twin.result (c.args.first + 1) (c.args.second + 1)
    c.twin_of-twin.ensures c.requires.arena c.move_to.ensures.filed c.requires.free (omega arith) (omega arith) (omega (arith, c.requires.first_within))
    c.move_to.ensures.same.lists c.move_to.ensures.lists c.move_to.ensures.owners c.move_to-2.ensures.lists
