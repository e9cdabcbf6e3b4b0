use Rattle.std.proofs.Common.{◌≡◌, ◌++◌, map, take}
use Rattle.std.specs.Prelude.{All}
use Rattle.std.specs.List.{flat_map}
use Rattle.script_scopes.specs.LocatedPieces.{shown_located}
use Rattle.script_scopes.specs.VariableTypes.{class_in, class_typing, HasClass}
use Rattle.script_scopes.proofs.template_classes.add_classes.Given as goal

abbrev pub invariant-loop-piece : goal.invariant-loop-piece
invariant-loop-piece l = record {
  typed : l.out ≡ l.fn.out ++ flat_map (class_typing (class_in l.metas l.names)) (map shown_located (take l.piece-index l.pieces));
  known : All (HasClass (class_in l.metas l.names)) (map shown_located (take l.piece-index l.pieces));
}
