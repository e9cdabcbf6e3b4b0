use Rattle.std.proofs.Common.{◌≡◌, ℕ, List, ◌+◌, ◌++◌, ◌∷◌, [], Bor, map, take, arith, true, sym, ap, subst, ◌∙◌}
use Rattle.std.specs.Prelude.{is_some}
use Rattle.std.specs.List.{AllZip}
use Rattle.std.proofs.lemmas.List.{take_more, map-append}
use Rattle.std.proofs.lemmas.List.Elements.{All-contains}
use Rattle.mof_metamodel.specs.NameTables.{value_of}
use Rattle.qv_syntax.specs.declared.program.Var.{Var}
use Rattle.qv_syntax.specs.declared.script.DomainTree.{DomainTree}
use Rattle.script_scopes.specs.Occurrences.{root_of}
use Rattle.qvtr_types.specs.RootVariables.{IsNamed}
use Rattle.script_scopes.proofs.LoopLemmas.{zip_push}
use Rattle.qvtr_types.proofs.roots.domain_roots.Goals as goal

pub variable_named-requires-clause-known : goal.variable_named-requires-clause-known
variable_named-requires-clause-known c =
    ap (λ (v : List ℕ). is_some (value_of c.args.numbers.now v)) c.root_name.ensures
    ∙ All-contains (λ (d : DomainTree). is_some (value_of c.args.numbers.now (root_of d)) ≡ true) c.args.domains.now c.domain-item.result c.requires.known
    (c.loop-domain.domain-index, omega arith, sym c.domain-item.is)

pub loop-domain-preserved : goal.loop-domain-preserved
loop-domain-preserved c =
    let names : List (List ℕ) = map {A = List ℕ × ℕ} {B = List ℕ} (λ e. e.0) c.args.numbers.now in
    let i : ℕ = c.loop-domain.domain-index in
    let d : DomainTree = c.domain-item.result in
    let before : List Var = map {A = Bor Var} {B = Var} (λ r. r.now) c.loop-domain.out in
    let next : List DomainTree = take (i + 1) c.args.domains.now in
    let root : Var = c.variable_named.result.now in
    subst (λ (rs : List (Bor Var)). AllZip (λ d root. IsNamed names c.args.vars.now (root_of d) root) next (map (λ r. r.now) rs)) (sym c.in_ok-push.ensures.ok)
    (subst (AllZip (λ d root. IsNamed names c.args.vars.now (root_of d) root) next) (sym (map-append {A = Bor Var} {B = Var} (λ r. r.now) c.loop-domain.out (c.variable_named.result ∷ [])))
    (subst (λ (ds : List DomainTree). AllZip (λ d root. IsNamed names c.args.vars.now (root_of d) root) ds (before ++ root ∷ []))
    (sym (take_more c.args.domains.now i d (omega arith) ∙ ap (λ (x : DomainTree). take i c.args.domains.now ++ x ∷ []) (sym c.domain-item.is)))
    (zip_push (λ d root. IsNamed names c.args.vars.now (root_of d) root) (take i c.args.domains.now) before d root c.loop-domain.invariant
    (subst (λ (v : List ℕ). IsNamed names c.args.vars.now v root) c.root_name.ensures c.variable_named.ensures))))
