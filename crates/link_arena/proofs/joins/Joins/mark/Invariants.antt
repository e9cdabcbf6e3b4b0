use Rattle.std.proofs.Common.{◌≡◌, ℕ, ◌⊎◌, get_or}
use Rattle.link_arena.specs.Threads.{walk}
use Rattle.link_arena.specs.Lists.{nexts, list_of, owner_at}
use Rattle.link_arena.specs.Twins.{twin}
use Rattle.link_arena.proofs.Members.{IsIn}
use Rattle.link_arena.proofs.joins.Joins.mark.Given as goal

abbrev pub invariant-loop-left : goal.invariant-loop-left
invariant-loop-left l = record {
  rest : (s : ℕ) → IsIn s (walk (nexts l.self.halves) l.left l.at) → IsIn s (list_of l.self.halves l.fn.head);
  passed : (s : ℕ) → IsIn s (list_of l.self.halves l.fn.head) → IsIn s (walk (nexts l.self.halves) l.left l.at) ⊎ (get_or l.marks (owner_at l.self.halves (twin s)) 0 ≡ s);
}

abbrev pub decreases-loop-left : goal.decreases-loop-left
decreases-loop-left l = l.left
