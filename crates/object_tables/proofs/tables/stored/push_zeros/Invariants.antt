use Rattle.std.proofs.Common.{◌≡◌, ◌+◌, ◌++◌, replicate, vec_len}
use Rattle.std.specs.Vec.{vec_capacity}
use Rattle.object_tables.proofs.tables.stored.push_zeros.Given as goal

abbrev pub invariant-loop : goal.invariant-loop
invariant-loop l = record {
  items : l.index.items ≡ l.initial.index.items ++ replicate l.counter 0;
  len : vec_len l.index ≡ vec_len l.initial.index + l.counter;
  room : vec_capacity l.index ≡ vec_capacity l.initial.index;
}
