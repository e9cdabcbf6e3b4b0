use Rattle.std.proofs.Common.{◌≡◌, ◌+◌, ◌++◌, map, drop}
use Rattle.script_scopes.specs.Occurrences.{in_turn, item_pieces}
use Rattle.script_scopes.specs.BorrowedPieces.{shown_piece}
use Rattle.script_scopes.proofs.pieces.+pieces.Given as goal

abbrev pub invariant-add_items-loop-item : goal.invariant-add_items-loop-item
invariant-add_items-loop-item l = record {
  pieces : map shown_piece l.out ++ (in_turn (map item_pieces (drop l.item-index l.items))).from l.k l.class
      ≡ map shown_piece l.fn.out ++ (in_turn (map item_pieces l.items)).from l.fn.first l.class;
  next : l.k + (in_turn (map item_pieces (drop l.item-index l.items))).count ≡ l.fn.first + (in_turn (map item_pieces l.items)).count;
}
