use Rattle.std.proofs.Common.{arith, ◌<◌, ◌∙◌, length, refl}
use Rattle.link_arena.specs.Twins.{links}
use Rattle.link_arena.proofs.Found.{length_links}
use Rattle.link_arena.proofs.Simple.{simple}
use Rattle.link_arena.proofs.InOrder.{none_in_order, there_in_order, step_in_order, all_in_order, order_within}
use Rattle.link_arena.proofs.Free.{same_self, same_twice}
use Rattle.link_arena.proofs.joins.Joins.put_in_order.Goals as goal

pub loop-other-init : goal.loop-other-init
loop-other-init c = record {
  arena = c.requires.arena;
  same = same_self c.args.self.now;
  free = refl;
  marked = c.requires.marked;
  view = none_in_order (links c.args.self.now.heads c.args.self.now.halves) c.args.end c.args.order.now;
}

pub put_last_at-requires-clause-room : goal.put_last_at-requires-clause-room
put_last_at-requires-clause-room c =
    omega (arith, order_within c.args.self.now.heads c.args.self.now.halves c.requires.arena c.args.end c.loop-other.other-index c.args.order.now c.requires.same (omega arith))

pub put_last_at-requires-clause-there : goal.put_last_at-requires-clause-there
put_last_at-requires-clause-there c =
    let within : c.args.end < length (links c.args.self.now.heads c.args.self.now.halves) = omega (arith, length_links c.args.self.now.heads c.args.self.now.halves) in
    there_in_order (links c.args.self.now.heads c.args.self.now.halves) (links c.loop-other.self.heads c.loop-other.self.halves) c.args.end c.loop-other.other-index c.args.order.now
    within c.requires.same (omega arith) c.loop-other.invariant.view

pub loop-other-preserved : goal.loop-other-preserved
loop-other-preserved c =
    let within : c.args.end < length (links c.args.self.now.heads c.args.self.now.halves) = omega (arith, length_links c.args.self.now.heads c.args.self.now.halves) in
    record {
      arena = c.put_last_at.ensures.requeued.arena;
      same = same_twice c.args.self.now c.loop-other.self c.put_last_at.new.self c.loop-other.invariant.same c.put_last_at.ensures.same;
      free = c.put_last_at.ensures.free ∙ c.loop-other.invariant.free;
      marked = c.put_last_at.ensures.requeued.marked;
      view = step_in_order (links c.args.self.now.heads c.args.self.now.halves) (links c.loop-other.self.heads c.loop-other.self.halves)
          (links c.put_last_at.new.self.heads c.put_last_at.new.self.halves) c.args.end c.loop-other.other-index _ c.args.order.now
          within (omega arith) refl c.loop-other.invariant.view c.put_last_at.ensures.requeued.view;
    }

pub returns-clause-view : goal.returns-clause-view
returns-clause-view c =
    all_in_order (links c.args.self.now.heads c.args.self.now.halves) (links c.loop-other.self.heads c.loop-other.self.halves) c.args.end c.loop-other.other-index c.args.order.now
    (simple c.args.self.now.heads c.args.self.now.halves c.requires.arena) c.requires.same (omega arith) c.loop-other.invariant.view
