use Rattle.std.proofs.Common.{◌≡◌, ◌++◌, map, drop}
use Rattle.script_scopes.specs.LocatedPieces.{located_from, shown_located}
use Rattle.script_scopes.proofs.located.add_all_located.Given as goal

abbrev pub invariant-loop-domain : goal.invariant-loop-domain
invariant-loop-domain l = map shown_located l.out ++ located_from l.k (drop l.domain-index l.domains) ≡ map shown_located l.fn.out ++ located_from 1 l.domains
