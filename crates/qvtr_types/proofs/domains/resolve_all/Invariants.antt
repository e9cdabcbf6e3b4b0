use Rattle.std.proofs.Common.{ℕ, List, ◌++◌, drop}
use Rattle.std.specs.Prelude.{All}
use Rattle.qv_syntax.specs.declared.program.Dom.{Dom}
use Rattle.ocl_environments.specs.declared.fault.TypeFault.{TypeFault}
use Rattle.script_scopes.specs.LocatedPieces.{located_from}
use Rattle.qvtr_types.specs.ResolvedDomains.{shown_scope, AreDomainsFrom, IsMeantIn, IsLocatedFault}
use Rattle.qvtr_types.proofs.domains.resolve_all.Given as goal

abbrev pub invariant-loop-domain : goal.invariant-loop-domain
invariant-loop-domain l = record {
  are : (rest : List Dom) → AreDomainsFrom (shown_scope l.scope) l.k (drop l.domain-index l.domains) rest → AreDomainsFrom (shown_scope l.scope) 1 l.domains (l.doms ++ rest);
  meant : All (IsMeantIn (shown_scope l.scope)) (located_from l.k (drop l.domain-index l.domains)) → All (IsMeantIn (shown_scope l.scope)) (located_from 1 l.domains);
  fault : (f : TypeFault) → IsLocatedFault (shown_scope l.scope) (located_from l.k (drop l.domain-index l.domains)) f → IsLocatedFault (shown_scope l.scope) (located_from 1 l.domains) f;
}
