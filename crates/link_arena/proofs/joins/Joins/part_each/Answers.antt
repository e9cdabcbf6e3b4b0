use Rattle.std.proofs.Common.{arith, ◌<◌, ◌∙◌, sym, refl, length}
use Rattle.link_arena.specs.Twins.{links}
use Rattle.link_arena.proofs.Found.{length_links}
use Rattle.link_arena.proofs.Simple.{simple}
use Rattle.link_arena.proofs.Parting.{IsFewer-parted, all_parted_none}
use Rattle.link_arena.proofs.Free.{same_self, same_twice}
use Rattle.link_arena.proofs.joins.Joins.part_each.Goals as goal

pub loop-smaller : goal.loop-smaller
loop-smaller c =
    let within : c.args.end < length (links c.loop.self.heads c.loop.self.halves) = omega (arith, length_links c.loop.self.heads c.loop.self.halves, c.loop.invariant.same.lists) in
    (IsFewer-parted (links c.loop.self.heads c.loop.self.halves) c.args.end (links c.part_first.new.self.heads c.part_first.new.self.halves) within
    (simple c.loop.self.heads c.loop.self.halves c.loop.invariant.arena) c.loop-test.ensures.parted).fewer

pub loop-preserved : goal.loop-preserved
loop-preserved c =
    let within : c.args.end < length (links c.loop.self.heads c.loop.self.halves) = omega (arith, length_links c.loop.self.heads c.loop.self.halves, c.loop.invariant.same.lists) in
    record {
      arena = c.loop-test.ensures.arena;
      same = same_twice c.args.self.now c.loop.self c.part_first.new.self c.loop.invariant.same c.loop-test.ensures.same;
      free = omega (arith, c.loop.invariant.free, c.loop-test.ensures.free);
      view = (IsFewer-parted (links c.loop.self.heads c.loop.self.halves) c.args.end (links c.part_first.new.self.heads c.part_first.new.self.halves) within
          (simple c.loop.self.heads c.loop.self.halves c.loop.invariant.arena) c.loop-test.ensures.parted).rest
          ∙ c.loop.invariant.view;
    }

pub returns-clause-view : goal.returns-clause-view
returns-clause-view c =
    c.loop-test.ensures.none.1
    ∙ (sym (all_parted_none (links c.loop.self.heads c.loop.self.halves) c.args.end (simple c.loop.self.heads c.loop.self.halves c.loop.invariant.arena)
    c.loop-test.ensures.none.0)
    ∙ c.loop.invariant.view)

pub loop-init : goal.loop-init
loop-init c = record { arena = c.requires.arena; same = same_self c.args.self.now; free = omega arith; view = refl }
