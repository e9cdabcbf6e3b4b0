use Rattle.std.proofs.Common.{◌≡◌, ◌+◌, take, set}
use Rattle.link_arena.specs.Links.{others_of}
use Rattle.link_arena.specs.Lists.{list_at, free_count, IsSameSize}
use Rattle.link_arena.specs.Twins.{links, IsArena, IsMarkedFor}
use Rattle.link_arena.proofs.Requeue.{requeued}
use Rattle.link_arena.proofs.joins.Joins.put_in_order.Given as goal

abbrev pub invariant-loop-other : goal.invariant-loop-other
invariant-loop-other l = record {
  arena : IsArena l.self.heads l.self.halves;
  same : IsSameSize l.initial.self l.self;
  free : free_count l.self ≡ free_count l.initial.self;
  marked : IsMarkedFor l.self.halves l.marks (list_at l.self.heads l.self.halves (l.end + 1));
  view : links l.self.heads l.self.halves ≡ set (links l.initial.self.heads l.initial.self.halves) l.end (requeued (others_of (links l.initial.self.heads l.initial.self.halves) l.end) (take l.other-index l.order));
}
