use Rattle.std.proofs.Common.{◌+◌, ◌*◌, ◌-◌, take, length}
use Rattle.term_table.specs.TermTables.{IsGrown}
use Rattle.entry_walk.specs.Walking.{IsFurther, IsHigh}
use Rattle.entry_walk.proofs.walking.+walking.Given as goal

-- Each call that comes on the path makes it longer, and it has no more calls than a chain may have.

abbrev pub decreases-reach_all : goal.decreases-reach_all
decreases-reach_all l = 4 * (129 - length l.path.now) + 3

abbrev pub decreases-reach : goal.decreases-reach
decreases-reach l = 4 * (129 - length l.path.now) + 2

abbrev pub decreases-visit : goal.decreases-visit
decreases-visit l = 4 * (129 - length l.path.now) + 1

abbrev pub decreases-go_through : goal.decreases-go_through
decreases-go_through l = 4 * (129 - length l.path.now)

-- of the calls so far
abbrev pub invariant-reach_all-loop-call : goal.invariant-reach_all-loop-call
invariant-reach_all-loop-call l = record {
  grown : IsGrown l.fn.table l.table;
  further : IsFurther l.ground.world.program.now l.ground.world.models.now l.ground.tops.now l.fn.finished l.fn.path l.table l.finished l.path;
  high : IsHigh l.finished l.path (take l.call-index l.calls) l.height;
}
