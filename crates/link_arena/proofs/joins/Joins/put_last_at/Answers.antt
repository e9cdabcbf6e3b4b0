use Rattle.std.proofs.Common.{arith, ◌≡◌, ◌+◌, get_or, suc, refl}
use Rattle.link_arena.proofs.Ordering.{marked_half, requeue_step}
use Rattle.link_arena.specs.Lists.{owner_at}
use Rattle.link_arena.proofs.Free.{free_kept}
use Rattle.link_arena.proofs.joins.Joins.put_last_at.Goals as goal

pub move_to-requires-clause-half_within : goal.move_to-requires-clause-half_within
move_to-requires-clause-half_within c =
    let a : c.args.end + 1 ≡ suc c.args.end = omega arith in
    let b : c.args.other + 1 ≡ suc c.args.other = omega arith in
    (marked_half c.args.self.now.heads c.args.self.now.halves c.args.marks.now c.args.end c.args.other _ (c.args.end + 1) (c.args.other + 1)
    c.requires.arena a b c.requires.marked c.requires.there refl).within

pub returns-clause-requeued : goal.returns-clause-requeued
returns-clause-requeued c =
    let a : c.args.end + 1 ≡ suc c.args.end = omega arith in
    let b : c.args.other + 1 ≡ suc c.args.other = omega arith in
    requeue_step c.args.self.now.heads c.args.self.now.halves c.move_to.new.self.heads c.move_to.new.self.halves c.args.marks.now c.args.end c.args.other _ (c.args.end + 1)
    c.requires.arena a c.requires.marked
    (marked_half c.args.self.now.heads c.args.self.now.halves c.args.marks.now c.args.end c.args.other _ (c.args.end + 1) (c.args.other + 1)
    c.requires.arena a b c.requires.marked c.requires.there refl)
    c.move_to.ensures.filed c.move_to.ensures.lists c.move_to.ensures.owners

pub returns-clause-free : goal.returns-clause-free
returns-clause-free c =
    let a : c.args.end + 1 ≡ suc c.args.end = omega arith in
    let b : c.args.other + 1 ≡ suc c.args.other = omega arith in
    let own : owner_at c.args.self.now.halves (get_or c.args.marks.now (c.args.other + 1) 0) ≡ suc c.args.end =
    (marked_half c.args.self.now.heads c.args.self.now.halves c.args.marks.now c.args.end c.args.other _ (c.args.end + 1) (c.args.other + 1)
    c.requires.arena a b c.requires.marked c.requires.there refl).own in
    free_kept c.args.self.now c.move_to.new.self (c.args.end + 1) (get_or c.args.marks.now (c.args.other + 1) 0)
    (λ z. absurd (omega (arith, own, z))) (omega arith) c.move_to.ensures.lists
