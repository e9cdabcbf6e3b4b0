use Rattle.std.proofs.Common.{◌+◌, ◌++◌, List, drop, sym, subst, arith}
use Rattle.std.specs.Prelude.{All}
use Rattle.std.proofs.lemmas.Result.{err_from_is_err_and}
use Rattle.std.proofs.lemmas.List.Elements.{All-contains}
use Rattle.std.proofs.Math.ListN.{drop_of_length-le}
use Rattle.qv_syntax.specs.declared.program.Dom.{Dom}
use Rattle.qv_syntax.specs.declared.script.DomainTree.{DomainTree}
use Rattle.ocl_types.proofs.QueryLemmas.{err_told}
use Rattle.script_scopes.specs.LocatedPieces.{located_in, located_from}
use Rattle.qvtr_types.specs.ResolvedDomains.{RelationReach, shown_scope, HasKnownModel, AreDomainsFrom, IsMeantIn, IsLocatedFault}
use Rattle.qvtr_types.proofs.DomainLoopLaws.{domain_fault, doms_more, meant_more, fault_more, doms_all}
use Rattle.qvtr_types.proofs.domains.resolve_all.Goals as goal

pub loop-domain-init : goal.loop-domain-init
loop-domain-init c = record {
  are = λ rest h. subst (λ (xs : List Dom). AreDomainsFrom (shown_scope c.args.scope.now) 1 c.args.domains.now (xs ++ rest)) (sym c.new-doms.ensures) h;
  meant = λ h. h;
  fault = λ f h. h;
}

pub resolve_domain-requires-clause-known : goal.resolve_domain-requires-clause-known
resolve_domain-requires-clause-known c =
    All-contains (HasKnownModel (shown_scope c.args.scope.now)) c.args.domains.now c.domain-item.result c.requires.known (c.loop-domain.domain-index, omega arith, sym c.domain-item.is)

pub returns-in_err-dom-clause-fault : goal.returns-in_err-dom-clause-fault
returns-in_err-dom-clause-fault c =
    let p = err_from_is_err_and c.from_residual.result c.from_residual.ensures.1 in
    err_told c.from_residual.result p.0 _ (IsLocatedFault (shown_scope c.args.scope.now) (located_from 1 c.args.domains.now))
    (IsLocatedFault (shown_scope c.args.scope.now) (located_in c.loop-domain.k c.domain-item.result)) p.1 p.2
    (λ f h. domain_fault (shown_scope c.args.scope.now) c.args.domains.now c.loop-domain.domain-index c.domain-item.result (omega arith) c.domain-item.is c.loop-domain.k
    (located_from 1 c.args.domains.now) c.loop-domain.invariant.fault f h)
    c.in_err-dom.ensures.fault

pub loop-domain-preserved : goal.loop-domain-preserved
loop-domain-preserved c =
    let reach : RelationReach = shown_scope c.args.scope.now in
    let i = c.loop-domain.domain-index in
    record {
      are = subst (λ (xs : List Dom). (rest : List Dom) → AreDomainsFrom reach c.in_ok-dom.next (drop (i + 1) c.args.domains.now) rest → AreDomainsFrom reach 1 c.args.domains.now (xs ++ rest)) (sym c.in_ok-push.ensures.ok)
          (doms_more reach c.args.domains.now i c.domain-item.result (omega arith) c.domain-item.is c.loop-domain.k c.in_ok-dom.next c.in_ok-dom.ensures.next c.loop-domain.doms c.in_ok-dom.dom
          c.loop-domain.invariant.are c.in_ok-dom.ensures.is);
      meant = meant_more reach c.args.domains.now i c.domain-item.result (omega arith) c.domain-item.is c.loop-domain.k c.in_ok-dom.next c.in_ok-dom.ensures.next (located_from 1 c.args.domains.now)
          c.loop-domain.invariant.meant c.in_ok-dom.ensures.meant;
      fault = fault_more reach c.args.domains.now i c.domain-item.result (omega arith) c.domain-item.is c.loop-domain.k c.in_ok-dom.next c.in_ok-dom.ensures.next (located_from 1 c.args.domains.now)
          c.loop-domain.invariant.fault;
    }

pub returns-clause-are : goal.returns-clause-are
returns-clause-are c =
    doms_all (shown_scope c.args.scope.now) c.loop-domain.k c.args.domains.now (drop c.loop-domain.domain-index c.args.domains.now) c.loop-domain.doms
    (drop_of_length-le c.args.domains.now c.loop-domain-test.false) c.loop-domain.invariant.are

pub returns-clause-meant : goal.returns-clause-meant
returns-clause-meant c =
    c.loop-domain.invariant.meant
    (subst (λ (ts : List DomainTree). All (IsMeantIn (shown_scope c.args.scope.now)) (located_from c.loop-domain.k ts)) (sym (drop_of_length-le c.args.domains.now c.loop-domain-test.false))
    (λ j d within. absurd (omega (arith, within))))
