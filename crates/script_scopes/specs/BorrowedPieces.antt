-- Pieces of templates as the code has them, with references into the script.
use Rattle.std.specs.Prelude.{ℕ, List}
use Rattle.std.specs.Option.{option_map}
use Rattle.script_scopes.specs.declared.piece.BorrowedProperty.{BorrowedProperty}
use Rattle.script_scopes.specs.declared.piece.VariableName.{VariableName}
use Rattle.script_scopes.specs.declared.piece.VariableName.TheVariants.{Named, Nameless}
use Rattle.script_scopes.specs.declared.piece.BorrowedPiece.{BorrowedPiece}
use Rattle.script_scopes.specs.declared.piece.BorrowedPiece.TheVariants.{Begins, Asks}
use Rattle.script_scopes.specs.Occurrences.{WrittenProperty, Piece, nameless}
use Rattle.script_scopes.specs.Occurrences.Piece.{begins, asks}

abbrev pub shown_property : BorrowedProperty → WrittenProperty
shown_property p = record { class = p.class.now; name = p.name.now }

abbrev pub shown_variable : VariableName → List ℕ
shown_variable (Named name) = name.now
shown_variable (Nameless k) = nameless k

abbrev pub shown_piece : BorrowedPiece → Piece
shown_piece (Begins at variable class) = begins (option_map shown_property at) (shown_variable variable) class.now
shown_piece (Asks at value) = asks (option_map shown_property at) value.now
