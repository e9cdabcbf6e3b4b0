use Rattle.std.proofs.Common.{◌≡◌, ◌≤◌, length}
use Rattle.link_arena.specs.Links.{others_of, all_parted}
use Rattle.link_arena.specs.Lists.{free_count, IsSameSize}
use Rattle.link_arena.specs.Twins.{links, IsArena}
use Rattle.link_arena.proofs.joins.Joins.part_each.Given as goal

abbrev pub invariant-loop : goal.invariant-loop
invariant-loop l = record {
  arena : IsArena l.self.heads l.self.halves;
  same : IsSameSize l.initial.self l.self;
  free : free_count l.initial.self ≤ free_count l.self;
  view : all_parted (links l.self.heads l.self.halves) l.end ≡ all_parted (links l.initial.self.heads l.initial.self.halves) l.end;
}

abbrev pub decreases-loop : goal.decreases-loop
decreases-loop l = length (others_of (links l.self.heads l.self.halves) l.end)
