use Rattle.std.proofs.Common.{ℕ, List, ap}
use Rattle.std.specs.Prelude.{None}
use Rattle.std.proofs.lemmas.Result.{err_from_is_err_and}
use Rattle.ocl_environments.specs.declared.fault.TypeFault.{TypeFault}
use Rattle.ocl_types.proofs.QueryLemmas.{err_told}
use Rattle.script_scopes.specs.Occurrences.{begun, template_body}
use Rattle.script_scopes.specs.Divisions.{model_of}
use Rattle.script_scopes.specs.LocatedPieces.{located_in}
use Rattle.qvtr_types.specs.TemplatePieces.{IsPieceFault}
use Rattle.qvtr_types.specs.ResolvedDomains.{shown_scope, IsLocatedFault}
use Rattle.qvtr_types.proofs.DomainLoopLaws.{pattern_is, pattern_count, pattern_meant, pattern_fault}
use Rattle.qvtr_types.proofs.domains.resolve_domain.Goals as goal

pub domain_scope-requires-clause-known : goal.domain_scope-requires-clause-known
domain_scope-requires-clause-known c = c.requires.known c.in-Pattern.model.text (ap model_of c.in-Pattern.is)

pub returns-in_err-template-in-Pattern-clause-fault : goal.returns-in_err-template-in-Pattern-clause-fault
returns-in_err-template-in-Pattern-clause-fault c =
    let within = c.in_ok-within-in-Pattern.within in
    let p = err_from_is_err_and c.from_residual-in_err-template-in-Pattern.result c.from_residual-in_err-template-in-Pattern.ensures.1 in
    err_told c.from_residual-in_err-template-in-Pattern.result p.0 _ (IsLocatedFault (shown_scope c.args.scope.now) (located_in c.args.k c.args.domain.now))
    (λ (f : TypeFault). (v : List ℕ) → IsPieceFault within (begun None v (template_body c.in-Pattern.template) c.args.k) f) p.1 p.2
    (λ f h. pattern_fault (shown_scope c.args.scope.now) c.args.k c.args.k c.in-Pattern.mark c.in-Pattern.model c.in-Pattern.root c.in-Pattern.template c.in-Pattern.span within c.in_ok-within-in-Pattern.ensures
    c.args.domain.now c.in-Pattern.is f (h c.in-Pattern.root.text))
    c.in_err-template-in-Pattern.ensures.fault

pub returns-in_ok-template-in-Pattern-clause-is : goal.returns-in_ok-template-in-Pattern-clause-is
returns-in_ok-template-in-Pattern-clause-is c =
    pattern_is (shown_scope c.args.scope.now) c.args.k c.in_ok-template-in-Pattern.next c.in-Pattern.mark c.in-Pattern.model c.in-Pattern.root c.in-Pattern.template c.in-Pattern.span
    c.in_ok-within-in-Pattern.within c.in_ok-within-in-Pattern.ensures c.args.domain.now c.in-Pattern.is c.model.result c.in_ok-root-in-Pattern.root c.marker_of.result c.in_ok-template-in-Pattern.template
    c.model.ensures c.marker_of.ensures c.in_ok-root-in-Pattern.ensures.number c.in_ok-template-in-Pattern.ensures.is

pub returns-in_ok-template-in-Pattern-clause-next : goal.returns-in_ok-template-in-Pattern-clause-next
returns-in_ok-template-in-Pattern-clause-next c =
    pattern_count (shown_scope c.args.scope.now) c.args.k c.in_ok-template-in-Pattern.next c.in-Pattern.mark c.in-Pattern.model c.in-Pattern.root c.in-Pattern.template c.in-Pattern.span
    c.in_ok-within-in-Pattern.within c.in_ok-within-in-Pattern.ensures c.args.domain.now c.in-Pattern.is c.in_ok-template-in-Pattern.ensures.next

pub returns-in_ok-template-in-Pattern-clause-meant : goal.returns-in_ok-template-in-Pattern-clause-meant
returns-in_ok-template-in-Pattern-clause-meant c =
    pattern_meant (shown_scope c.args.scope.now) c.args.k c.in_ok-template-in-Pattern.next c.in-Pattern.mark c.in-Pattern.model c.in-Pattern.root c.in-Pattern.template c.in-Pattern.span
    c.in_ok-within-in-Pattern.within c.in_ok-within-in-Pattern.ensures c.args.domain.now c.in-Pattern.is (c.in_ok-template-in-Pattern.ensures.meant c.in-Pattern.root.text)
