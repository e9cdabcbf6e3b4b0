use Rattle.std.proofs.Common.{List, subst, sym, ◌∙◌}
use Rattle.std.specs.Prelude.{All}
use Rattle.std.proofs.lemmas.Result.{IfOk-weaker, on_ok_weaker}
use Rattle.qv_syntax.specs.declared.program.Var.{Var}
use Rattle.qv_syntax.specs.declared.program.Dom.{Dom}
use Rattle.qv_syntax.specs.declared.script.DomainTree.{DomainTree}
use Rattle.ocl_environments.specs.declared.fault.TypeFault.{TypeFault}
use Rattle.ocl_types.proofs.QueryLemmas.{fault_of_result}
use Rattle.script_scopes.specs.Environments.{Setting}
use Rattle.qvtr_types.specs.PlacedFaults.{StandsInItems}
use Rattle.script_scopes.specs.Resolutions.{AreDomains}
use Rattle.script_scopes.specs.LocatedPieces.{located_from}
use Rattle.qvtr_types.specs.RelationSettings.{IsReachOf}
use Rattle.qvtr_types.specs.ResolvedDomains.{shown_scope, HasKnownModel, AreDomainsFrom, IsMeantIn, IsLocatedFault}
use Rattle.qvtr_types.proofs.DomainLaws.{metas_named, models_known, are_domains, located_stands, none_in_items}
use Rattle.qvtr_types.proofs.domains.resolve_domains.Goals as goal

pub resolve_all-requires-clause-named : goal.resolve_all-requires-clause-named
resolve_all-requires-clause-named c = metas_named c.requires.0 c.args.r.now c.requires.1 c.args.scope.now c.requires.2

pub resolve_all-requires-clause-known : goal.resolve_all-requires-clause-known
resolve_all-requires-clause-known c =
    subst (All (HasKnownModel (shown_scope c.args.scope.now))) (sym c.as_slice.ensures) (models_known c.requires.0 c.args.r.now c.requires.1 c.args.scope.now c.requires.2)

pub returns-clause-domains : goal.returns-clause-domains
returns-clause-domains c =
    IfOk-weaker c.resolve_all.result (AreDomainsFrom (shown_scope c.args.scope.now) 1 c.as_slice.result.now)
    (λ (doms : List Dom). (s : Setting) (vars : List Var) → IsReachOf s c.args.r.now vars c.args.scope.now → AreDomains s c.args.r.now vars doms)
    (λ doms are s vars h. are_domains s c.args.r.now vars c.args.scope.now h doms
    (subst (λ (ds : List DomainTree). AreDomainsFrom (shown_scope c.args.scope.now) 1 ds doms) c.as_slice.ensures are))
    c.resolve_all.ensures.are

pub returns-clause-none : goal.returns-clause-none
returns-clause-none c =
    on_ok_weaker c.resolve_all.result
    (λ meant s vars f h. none_in_items s c.args.r.now vars c.args.scope.now h c.one_type_is_had.ensures c.typing_is_told.ensures.only c.typing_is_told.ensures.known
    (subst (λ (ds : List DomainTree). All (IsMeantIn (shown_scope c.args.scope.now)) (located_from 1 ds)) c.as_slice.ensures meant) f)
    c.resolve_all.ensures.meant

pub returns-clause-fault : goal.returns-clause-fault
returns-clause-fault c =
    fault_of_result c.resolve_all.result (IsLocatedFault (shown_scope c.args.scope.now) (located_from 1 c.as_slice.result.now))
    (λ (f : TypeFault). (s : Setting) (vars : List Var) → IsReachOf s c.args.r.now vars c.args.scope.now → StandsInItems s c.args.r.now vars f)
    (λ f fault s vars h. located_stands s c.args.r.now vars c.args.scope.now h f
    (subst (λ (ds : List DomainTree). IsLocatedFault (shown_scope c.args.scope.now) (located_from 1 ds) f) c.as_slice.ensures fault))
    c.resolve_all.ensures.fault
