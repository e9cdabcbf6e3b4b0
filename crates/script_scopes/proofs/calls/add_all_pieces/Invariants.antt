use Rattle.std.proofs.Common.{◌≡◌, ◌++◌, map, drop}
use Rattle.script_scopes.specs.BorrowedPieces.{shown_piece}
use Rattle.script_scopes.specs.CallNames.{all_pieces}
use Rattle.script_scopes.proofs.calls.add_all_pieces.Given as goal

abbrev pub invariant-loop-domain : goal.invariant-loop-domain
invariant-loop-domain l = map shown_piece l.out ++ all_pieces l.k (drop l.domain-index l.domains) ≡ map shown_piece l.fn.out ++ all_pieces 1 l.domains
