use Rattle.std.proofs.Common.{◌≡◌, ◌≤◌, length, take}
use Rattle.call_graph.specs.Tops.{AreSettled}
use Rattle.call_graph.specs.Walks.{new_count}
use Rattle.call_graph.proofs.walk.settle.Given as goal

-- the nodes behind those that are left were given the stratum
abbrev pub invariant-loop-stack : goal.invariant-loop-stack
invariant-loop-stack l = record {
  short : l.from ≤ length l.stack;
  within : length l.stack ≤ length l.fn.stack;
  front : l.stack ≡ take (length l.stack) l.fn.stack;
  settled : AreSettled l.fn.standings l.standings l.fn.stack (length l.stack) l.stratum;
  fewer : new_count l.standings ≤ new_count l.fn.standings;
}

abbrev pub decreases-loop-stack : goal.decreases-loop-stack
decreases-loop-stack l = length l.stack
