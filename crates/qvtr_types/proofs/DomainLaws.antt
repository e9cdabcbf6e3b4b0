-- Domains that are resolved over what is in reach of a setting are those of the relation.
use Rattle.std.proofs.Common.{◌≡◌, ℕ, zero, suc, ◌+◌, List, [], ◌∷◌, map, take, length, refl, sym, ap, subst, ◌∙◌, arith}
use Rattle.std.specs.Prelude.{Some, Ok, Err, Contains, All, is_some, slice_get}
use Rattle.std.specs.Option.{unwrap_or}
use Rattle.std.specs.List.{sum_by}
use Rattle.std.proofs.lemmas.Option.{same_Some, none-some}
use Rattle.std.proofs.lemmas.List.Elements.{All-contains, All-weaker, All-contains_itself}
use Rattle.mof_metamodel.specs.NameTables.{NamesWith, value_of}
use Rattle.qv_syntax.specs.declared.expr.Expr.{Expr}
use Rattle.qv_syntax.specs.declared.typed.Typed.{Typed}
use Rattle.qv_syntax.specs.declared.program.Var.{Var}
use Rattle.qv_syntax.specs.declared.program.Dom.{Dom}
use Rattle.qv_syntax.specs.declared.program.Tmpl.{Tmpl}
use Rattle.qv_syntax.specs.declared.script.DomainTree.{DomainTree}
use Rattle.qv_syntax.specs.declared.script.DomainTree.TheVariants as domains
use Rattle.qv_syntax.specs.declared.script.RelationTree.{RelationTree}
use Rattle.ocl_environments.specs.declared.fault.TypeFault.{TypeFault}
use Rattle.ocl_environments.specs.declared.part.TypedPart.{TypedPart}
use Rattle.ocl_environments.specs.Environments.{Environment}
use Rattle.ocl_types.specs.HasType.{HasType, HasTree, Stands}
use Rattle.ocl_types.specs.Typing.{typed}
use Rattle.qvtr_types.specs.declared.domains.RelationScope.{RelationScope}
use Rattle.script_scopes.specs.ScriptNames.{model_names}
use Rattle.script_scopes.specs.Occurrences.{Piece, relations_of, variables_of, template_count}
use Rattle.script_scopes.specs.Divisions.{model_of, HasPiece}
use Rattle.script_scopes.specs.Environments.{Setting, in_relation, place_of, slots_of}
use Rattle.script_scopes.specs.Declarations.{meta_of}
use Rattle.script_scopes.specs.Refusals.{HasNamesInOrder, AreInOrder}
use Rattle.script_scopes.specs.Faults.{domain_models}
use Rattle.qvtr_types.specs.PlacedFaults.{StandsInItems}
use Rattle.script_scopes.specs.VariableTypes.{metamodel_numbers}
use Rattle.script_scopes.specs.LocatedPieces.{located}
use Rattle.script_scopes.specs.ResolvedTemplates.{DomainReach, IsTemplate}
use Rattle.qvtr_types.specs.TemplatePieces.{IsMeant, StandsAtPiece}
use Rattle.script_scopes.specs.Resolutions.{domain_reach, model_number, marker_of, IsDomain, AreDomains}
use Rattle.qvtr_types.specs.ResolvedDomains.{RelationReach, shown_scope, domain_in, HasKnownModel, IsDomainIn, AreDomainsFrom, IsMeantIn, IsLocatedFault}
use Rattle.qvtr_types.specs.RelationSettings.{IsReachOf}
use Rattle.script_scopes.proofs.MemberLemmas.{to_filter_map}
use Rattle.mof_metamodel.proofs.Facts.{contains_at}
use Rattle.script_variables.proofs.FirstEntryLemmas.{first_value}
use Rattle.script_variables.proofs.LocatedLaws.{located_piece, piece_located}
use Rattle.script_scopes.proofs.DivisionLaws.{first, past}
use Rattle.script_variables.proofs.PlaceLaws.{meta_found}
use Rattle.script_variables.proofs.NameOrderLaws.{model_numbers}
use Rattle.qvtr_types.proofs.PieceLaws.{piece_stands, items_faultless}

-- a domain of a relation is one of a model of the script
pub model_known : (s : Setting) → AreInOrder s.script s.target → (r : RelationTree) → Contains (relations_of s.script) r → (domain : DomainTree) (model : List ℕ) → Contains r.domains domain
    → model_of domain ≡ Some model → Contains (model_names s.script.models) model
model_known s order r among domain model there of =
    let own : HasNamesInOrder (model_names s.script.models) r = All-contains (HasNamesInOrder (model_names s.script.models)) (relations_of s.script) r order.relations among in
    All-contains (Contains (model_names s.script.models)) (domain_models r) model own.known (to_filter_map model_of r.domains domain model there of)

-- ---- domains one behind the other

module _ (s : Setting) (r : RelationTree) (vars : List Var) (reach : RelationReach) (variables : reach.variables ≡ variables_of r)
    (is : (model : List ℕ) → Contains (model_names s.script.models) model → domain_in reach model ≡ domain_reach s r vars model) where
  domain_is : (k : ℕ) (tree : DomainTree) (dom : Dom) → ((model : List ℕ) → model_of tree ≡ Some model → Contains (model_names s.script.models) model) → IsDomainIn reach k tree dom → IsDomain s r vars k tree dom
  domain_is k (domains.Pattern mark model root tree span) dom known h =
      let there : Contains (model_names s.script.models) model.text = known model.text refl in
      let all : (dom.model ≡ Some (domain_reach s r vars model.text).model) × (dom.marker ≡ marker_of mark) × (dom.root ≡ place_of root.text (variables_of r))
      × ((t : Tmpl) × (next : ℕ) × (dom.template ≡ Some t) × IsTemplate (domain_reach s r vars model.text) k (Some root) tree t next) =
      subst (λ (d : DomainReach). (dom.model ≡ Some d.model) × (dom.marker ≡ marker_of mark) × (dom.root ≡ place_of root.text d.variables)
      × ((t : Tmpl) × (next : ℕ) × (dom.template ≡ Some t) × IsTemplate d k (Some root) tree t next)) (is model.text there) h in
      (there, all.0, all.1, all.2, all.3)
  domain_is k (domains.Primitive root ty span) dom known h =
      (h.0, h.1, h.2 ∙ ap (place_of root.text) variables, h.3)

  domains_are : (k : ℕ) (trees : List DomainTree) (doms : List Dom) → ((tree : DomainTree) (model : List ℕ) → Contains trees tree → model_of tree ≡ Some model → Contains (model_names s.script.models) model)
      → AreDomainsFrom reach k trees doms
      → (length trees ≡ length doms)
      × ((place : ℕ) (tree : DomainTree) (dom : Dom) → slice_get trees place ≡ Some tree → slice_get doms place ≡ Some dom → IsDomain s r vars (k + sum_by template_count (take place trees)) tree dom)
  domains_are k [] [] known h = (refl, λ place tree dom found at. absurd (none-some tree found))
  domains_are k [] (d ∷ doms) known h = absurd h
  domains_are k (t ∷ trees) [] known h = absurd h
  domains_are k (t ∷ trees) (d ∷ doms) known h =
      let (count, each) = domains_are (k + template_count t) trees doms (λ tree model among of. known tree model (further among) of) h.1 in
      (omega (arith, count), by each)
    where
      further : {tree : DomainTree} → Contains trees tree → Contains (t ∷ trees) tree
      further (i, l, at) = (suc i, omega (arith, l), at)

      by : ((place : ℕ) (tree : DomainTree) (dom : Dom) → slice_get trees place ≡ Some tree → slice_get doms place ≡ Some dom → IsDomain s r vars (k + template_count t + sum_by template_count (take place trees)) tree dom)
          → (place : ℕ) (tree : DomainTree) (dom : Dom) → slice_get (t ∷ trees) place ≡ Some tree → slice_get (d ∷ doms) place ≡ Some dom
          → IsDomain s r vars (k + sum_by template_count (take place (t ∷ trees))) tree dom
      by rest zero tree dom found at =
          subst (λ (x : DomainTree). IsDomain s r vars (k + 0) x dom) (same_Some t tree found)
          (subst (λ (n : ℕ). IsDomain s r vars n t dom) (first k)
          (subst (IsDomain s r vars k t) (same_Some d dom at) (domain_is k t d (λ model of. known t model (0, omega arith, refl) of) h.0)))
      by rest (suc place) tree dom found at = subst (λ (n : ℕ). IsDomain s r vars n tree dom) (past k t trees place) (rest place tree dom found at)

-- ---- over a setting

module _ (s : Setting) (r : RelationTree) (vars : List Var) (scope : RelationScope) (h : IsReachOf s r vars scope) where
  abbrev reach : RelationReach
  reach = shown_scope scope

  meta_there : (model : List ℕ) → Contains (model_names s.script.models) model → value_of reach.models model ≡ Some (meta_of s.script model)
  meta_there model known =
      ap (λ (ms : NamesWith ℕ). value_of ms model) h.models ∙ first_value (metamodel_numbers (slots_of s.script)) model ∙ meta_found s.script model known

  reach_is : (model : List ℕ) → Contains (model_names s.script.models) model → domain_in reach model ≡ domain_reach s r vars model
  reach_is model known =
      let number : place_of model (map {A = List ℕ × ℕ} {B = List ℕ} (λ e. e.0) reach.models) ≡ model_number s model =
      ap (λ (ms : NamesWith ℕ). place_of model (map {A = List ℕ × ℕ} {B = List ℕ} (λ e. e.0) ms)) h.models ∙ ap (place_of model) (model_numbers s.script s.target h.order) in
      let meta : unwrap_or (value_of reach.models model) 0 ≡ meta_of s.script model = ap (λ o. unwrap_or o 0) (meta_there model known) in
      let env : reach.env ≡ in_relation s r vars = sym h.reach in
      λ i. record { env = env i; variables = h.variables i; model = number i; meta = meta i }

  pub metas_named : scope.names.now.metas ≡ scope.env.now.names
  metas_named = h.metas ∙ ap (λ (e : Environment). e.names) h.reach

  pub models_known : All (HasKnownModel reach) r.domains
  models_known = All-weaker (Contains r.domains) (HasKnownModel reach) (λ domain among model of. ap is_some (meta_there model (model_known s h.order r h.among domain model among of))) r.domains (All-contains_itself r.domains)

  pub are_domains : (doms : List Dom) → AreDomainsFrom reach 1 r.domains doms → AreDomains s r vars doms
  are_domains doms are =
      let all = domains_are s r vars reach h.variables reach_is 1 r.domains doms (model_known s h.order r h.among) are in
      record { count = all.0; each = all.1 }

  pub located_stands : (f : TypeFault) → IsLocatedFault reach (located r) f → StandsInItems s r vars f
  located_stands f fault =
      let (domain, has, of_model) = located_piece fault.piece.0 fault.piece.1 r fault.among in
      let known : Contains (model_names s.script.models) fault.piece.0 = model_known s h.order r h.among domain fault.piece.0 (domain_among domain fault.piece.1 has) of_model in
      piece_stands s r vars h.declared domain fault.piece.0 of_model known fault.piece.1 f has
      (subst (λ (d : DomainReach). StandsAtPiece d fault.piece.1 f) (reach_is fault.piece.0 known) fault.stands)
    where
      domain_among : (domain : DomainTree) (piece : Piece) → HasPiece r domain piece → Contains r.domains domain
      domain_among domain piece has = contains_at r.domains has.place domain has.found

  pub none_in_items : ((e : Expr) (p q : TypedPart) → HasType scope.env.now e p → HasType scope.env.now e q → p ≡ q)
      → ((e : Expr) (t : Typed) → HasTree scope.env.now e t → typed scope.env.now e ≡ Ok t)
      → ((e : Expr) (f : TypeFault) → Stands scope.env.now e f → (g : TypeFault) × (typed scope.env.now e ≡ Err g))
      → All (IsMeantIn reach) (located r) → (f : TypeFault) → StandsInItems s r vars f → ⊥
  none_in_items one only fails all f stands =
      items_faultless s r vars
      (subst (λ (env : Environment). (e : Expr) (p q : TypedPart) → HasType env e p → HasType env e q → p ≡ q) (sym h.reach) one)
      (subst (λ (env : Environment). (e : Expr) (t : Typed) → HasTree env e t → typed env e ≡ Ok t) (sym h.reach) only)
      (subst (λ (env : Environment). (e : Expr) (f : TypeFault) → Stands env e f → (g : TypeFault) × (typed env e ≡ Err g)) (sym h.reach) fails)
      (λ domain model piece has of_model.
      let known : Contains (model_names s.script.models) model = model_known s h.order r h.among domain model (contains_at r.domains has.place domain has.found) of_model in
      subst (λ (d : DomainReach). IsMeant d piece) (reach_is model known)
      (All-contains (IsMeantIn reach) (located r) (model, piece) all (piece_located model piece r domain has of_model)))
      f stands
