use Rattle.std.proofs.Common.{◌≡◌, ◌++◌, map, take}
use Rattle.script_scopes.specs.BorrowedPieces.{shown_piece}
use Rattle.script_scopes.specs.LocatedPieces.{in_model, shown_located}
use Rattle.script_scopes.proofs.located.add_in_model.Given as goal

abbrev pub invariant-loop-piece : goal.invariant-loop-piece
invariant-loop-piece l = map shown_located l.out ≡ map shown_located l.fn.out ++ in_model l.model (map shown_piece (take l.piece-index l.pieces))
