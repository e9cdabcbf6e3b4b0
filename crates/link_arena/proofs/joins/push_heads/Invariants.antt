use Rattle.std.proofs.Common.{◌≡◌, ◌+◌, ◌++◌, replicate}
use Rattle.std.specs.Vec.{vec_len, vec_capacity}
use Rattle.link_arena.specs.Twins.{no_head}
use Rattle.link_arena.proofs.joins.push_heads.Given as goal

abbrev pub invariant-loop : goal.invariant-loop
invariant-loop l = record {
  items : l.heads.items ≡ l.initial.heads.items ++ replicate l.counter no_head;
  len : vec_len l.heads ≡ vec_len l.initial.heads + l.counter;
  capacity : vec_capacity l.heads ≡ vec_capacity l.initial.heads;
}
