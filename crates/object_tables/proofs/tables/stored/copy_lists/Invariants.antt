use Rattle.std.proofs.Common.{◌≡◌, ◌≤◌, take, vec_len}
use Rattle.std.specs.Vec.{vec_capacity}
use Rattle.object_tables.proofs.tables.stored.copy_lists.Given as goal

abbrev pub invariant-loop-list : goal.invariant-loop-list
invariant-loop-list l = record {
  items : l.copies.items ≡ take l.list-index l.lists;
  len : vec_len l.copies ≡ l.list-index;
  room : l.capacity ≤ vec_capacity l.copies;
}
