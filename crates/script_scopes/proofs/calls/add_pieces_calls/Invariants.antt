use Rattle.std.proofs.Common.{◌≡◌, ◌++◌, map, take}
use Rattle.std.specs.List.{flat_map}
use Rattle.script_scopes.specs.BorrowedPieces.{shown_piece}
use Rattle.script_scopes.specs.CallNames.{piece_calls}
use Rattle.script_scopes.proofs.calls.add_pieces_calls.Given as goal

abbrev pub invariant-loop-piece : goal.invariant-loop-piece
invariant-loop-piece l = l.out ≡ l.fn.out ++ flat_map piece_calls (map shown_piece (take l.piece-index l.pieces))
