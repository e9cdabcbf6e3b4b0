use Rattle.std.proofs.Common.{◌≡◌, ℕ, List, ◌++◌, map, take}
use Rattle.std.specs.Prelude.{chars}
use Rattle.std.specs.List.{flat_map}
use Rattle.script_scopes.specs.LocatedPieces.{shown_located}
use Rattle.script_variables.specs.Bindings.{item_rules, numbered}
use Rattle.script_variables.proofs.bindings.add_items.Given as goal

abbrev pub invariant-loop-piece : goal.invariant-loop-piece
invariant-loop-piece l = l.out ≡ l.fn.out ++ flat_map (λ p. numbered l.types (item_rules (map {A = List ℕ × ℕ} {B = List ℕ} (λ e. e.0) l.universal) (chars l.target) p)) (map shown_located (take l.piece-index l.pieces))
