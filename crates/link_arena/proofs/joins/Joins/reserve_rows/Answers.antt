use Rattle.std.proofs.Common.{◌≡◌, ◌<◌, ◌∙◌, ap, arith, length, sym}
use Rattle.link_arena.specs.declared.half.Head.{Head}
use Rattle.link_arena.specs.Lists.{free_count}
use Rattle.link_arena.proofs.Threaded.{length-list_at}
use Rattle.link_arena.proofs.joins.Joins.reserve_rows.Goals as goal

pub loop-self-smaller : goal.loop-self-smaller
loop-self-smaller c =
    let within : 0 < length c.loop-self.self.heads = omega (arith, c.loop-self.invariant.same.lists, c.requires.within) in
    let free : free_count c.loop-self.self ≡ c.head.result.len =
    length-list_at c.loop-self.self.heads c.loop-self.self.halves 0 within ∙ ap (λ (h : Head). h.len) (sym c.head.ensures) in
    omega (arith, free, c.loop-self-test.true, c.in_ok-add_row.ensures.room)

pub returns-clause-room : goal.returns-clause-room
returns-clause-room c =
    let within : 0 < length c.loop-self.self.heads = omega (arith, c.loop-self.invariant.same.lists, c.requires.within) in
    let free : free_count c.loop-self.self ≡ c.head.result.len =
    length-list_at c.loop-self.self.heads c.loop-self.self.halves 0 within ∙ ap (λ (h : Head). h.len) (sym c.head.ensures) in
    omega (arith, free, c.loop-self-test.false)
