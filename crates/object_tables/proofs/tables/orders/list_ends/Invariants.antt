use Rattle.std.proofs.Common.{◌≡◌, map, take, get_or, vec_len}
use Rattle.std.specs.Vec.{vec_capacity}
use Rattle.object_tables.proofs.tables.orders.list_ends.Given as goal

abbrev pub invariant-loop-object : goal.invariant-loop-object
invariant-loop-object l = record {
  items : l.ends.items ≡ map (λ b. get_or l.marks b.0 0) (take l.object-index l.order);
  len : vec_len l.ends ≡ l.object-index;
  room : vec_capacity l.ends ≡ vec_capacity l.initial.ends;
}
