use Rattle.std.proofs.Common.{◌≡◌, ◌++◌, map, take}
use Rattle.std.specs.List.{flat_map}
use Rattle.script_scopes.specs.Occurrences.{piece_variables}
use Rattle.script_scopes.specs.BorrowedPieces.{shown_piece}
use Rattle.script_scopes.proofs.occurrences.add_each.Given as goal

abbrev pub invariant-loop-piece : goal.invariant-loop-piece
invariant-loop-piece l = l.out ≡ l.fn.out ++ flat_map piece_variables (map shown_piece (take l.piece-index l.pieces))
