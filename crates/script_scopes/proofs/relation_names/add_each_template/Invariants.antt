use Rattle.std.proofs.Common.{◌≡◌, ◌++◌, map, take}
use Rattle.std.specs.List.{flat_map}
use Rattle.script_scopes.specs.Occurrences.{piece_template}
use Rattle.script_scopes.specs.BorrowedPieces.{shown_piece}
use Rattle.script_scopes.proofs.relation_names.add_each_template.Given as goal

abbrev pub invariant-loop-piece : goal.invariant-loop-piece
invariant-loop-piece l = l.out ≡ l.fn.out ++ flat_map piece_template (map shown_piece (take l.piece-index l.pieces))
