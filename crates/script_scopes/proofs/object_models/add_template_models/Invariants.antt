use Rattle.std.proofs.Common.{◌≡◌, ◌++◌, map, take}
use Rattle.std.specs.List.{flat_map}
use Rattle.script_scopes.specs.LocatedPieces.{shown_located}
use Rattle.script_scopes.specs.ModelLists.{template_model}
use Rattle.script_scopes.proofs.object_models.add_template_models.Given as goal

abbrev pub invariant-loop-piece : goal.invariant-loop-piece
invariant-loop-piece l = l.out ≡ l.fn.out ++ flat_map template_model (map shown_located (take l.piece-index l.pieces))
