use Rattle.std.proofs.Common.{◌≡◌, ◌≤◌, ◌*◌, ◌-◌}
use Rattle.link_arena.specs.Lists.{free_count, IsSameSize}
use Rattle.link_arena.specs.Twins.{links, IsArena}
use Rattle.link_arena.proofs.joins.Joins.reserve_rows.Given as goal

abbrev pub invariant-loop-self : goal.invariant-loop-self
invariant-loop-self l = record {
  arena : IsArena l.self.heads l.self.halves;
  same : IsSameSize l.initial.self l.self;
  free : free_count l.initial.self ≤ free_count l.self;
  view : links l.self.heads l.self.halves ≡ links l.initial.self.heads l.initial.self.halves;
}

abbrev pub decreases-loop-self : goal.decreases-loop-self
decreases-loop-self l = 2 * l.count - free_count l.self
