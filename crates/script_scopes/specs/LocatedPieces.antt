-- The pieces of a relation's templates in the order of the text, each with the model of its domain (QVT 1.3, sections 7.11.1.6 and 7.11.2).
use Rattle.std.specs.Prelude.{ℕ, ◌+◌, List, [], ◌∷◌, ◌++◌, map}
use Rattle.qv_syntax.specs.declared.script.DomainTree.{DomainTree}
use Rattle.qv_syntax.specs.declared.script.DomainTree.TheVariants as domains
use Rattle.qv_syntax.specs.declared.script.RelationTree.{RelationTree}
use Rattle.script_scopes.specs.declared.located.LocatedPiece.{LocatedPiece}
use Rattle.script_scopes.specs.Occurrences.{Piece, pieces_of, template_count}
use Rattle.script_scopes.specs.BorrowedPieces.{shown_piece}

-- pieces in a domain of this model
abbrev pub in_model : List ℕ → List Piece → List (List ℕ × Piece)
in_model model pieces = map (λ p. (model, p)) pieces

-- those of a domain; a primitive one has no template
abbrev pub located_in : ℕ → DomainTree → List (List ℕ × Piece)
located_in k (domains.Pattern mark model root template span) = in_model model.text (pieces_of k (domains.Pattern mark model root template span))
located_in k (domains.Primitive root ty span) = []

-- those of domains one behind the other; the first template of the first one has this number
abbrev pub located_from : ℕ → List DomainTree → List (List ℕ × Piece)
located_from k [] = []
located_from k (domain ∷ more) = located_in k domain ++ located_from (k + template_count domain) more

abbrev pub located : RelationTree → List (List ℕ × Piece)
located r = located_from 1 r.domains

-- one as the code has it, with references into the script
abbrev pub shown_located : LocatedPiece → List ℕ × Piece
shown_located l = (l.model.now, shown_piece l.piece)
