-- A relation that is resolved over the tables of a script: what its parts ask for holds, and what is put together is the relation.
use Rattle.std.proofs.Common.{◌≡◌, ◌⊎◌, inl, inr, ℕ, List, [], refl, sym, ◌∙◌, ap, subst, map, length, ⊎_elim}
use Rattle.std.specs.Prelude.{All, Contains, IsTrue, Result, Ok, Err, OnOk, chars}
use Rattle.std.specs.List.{AllZip}
use Rattle.std.proofs.lemmas.List.{length-map}
use Rattle.qv_syntax.specs.TypedTrees.{Typing}
use Rattle.qv_syntax.specs.declared.program.Var.{Var}
use Rattle.qv_syntax.specs.declared.program.Rel.{Rel}
use Rattle.qv_syntax.specs.declared.program.Dom.{Dom}
use Rattle.qv_syntax.specs.declared.program.Conj.{Conj}
use Rattle.qv_syntax.specs.declared.script.DomainTree.{DomainTree}
use Rattle.qv_syntax.specs.declared.script.RelationTree.{RelationTree}
use Rattle.ocl_environments.specs.declared.fault.TypeFault.{TypeFault}
use Rattle.ocl_environments.specs.Environments.{Environment, IsInOrder, is_variable}
use Rattle.script_scopes.specs.declared.template_classes.ModelNames.{ModelNames}
use Rattle.qvtr_types.specs.declared.domains.RelationScope.{RelationScope}
use Rattle.qvtr_types.specs.declared.resolved_conjuncts.ClauseScope.{ClauseScope}
use Rattle.qvtr_types.specs.declared.relations.ScriptScope.{ScriptScope}
use Rattle.script_scopes.specs.ScriptNames.{each_once}
use Rattle.script_scopes.specs.Conjuncts.{clause_conjuncts}
use Rattle.script_scopes.specs.Occurrences.{relations_of, variables_of}
use Rattle.script_scopes.specs.UniversalNames.{universal_names}
use Rattle.script_scopes.specs.Directions.{IsStratum, IsMisplaced}
use Rattle.script_scopes.specs.Environments.{Setting, in_script, in_relation, named_variables}
use Rattle.script_scopes.specs.Resolutions.{IsVariable, IsRelation}
use Rattle.script_scopes.specs.Faults.{AreVariables, IsRoot, StandsInExpressions}
use Rattle.qvtr_types.specs.Expressions.{HaveTypes}
use Rattle.qvtr_types.specs.PlacedFaults.{AreRoots, AreAloneRelated, StandsInClauses, StandsInItems}
use Rattle.qvtr_types.specs.VariableLists.{HaveOneList}
use Rattle.script_variables.specs.SettledRelations.{HaveOneType, IsSettled}
use Rattle.qvtr_types.specs.RelationSettings.{IsReachOf}
use Rattle.qvtr_types.specs.ClauseSettings.{roots_of, IsClauseScopeOf}
use Rattle.qvtr_types.specs.ResolvedConjuncts.{ClauseReach, HasRootTypes}
use Rattle.qvtr_types.specs.LoneArguments.{CallsRelated, IsUnrelatedFault}
use Rattle.qvtr_types.specs.ScriptScopes.{IsDeclared, IsSettledWith, IsScriptScopeOf, scope_roots, reach_before, HasRelatedArguments, IsRelationReach}
use Rattle.qvtr_types.specs.ResolvedRelations.{AreParts, IsMadeOf}
use Rattle.qvtr_types.proofs.AloneLaws.{unrelated_stands, alone_related}
use Rattle.script_scopes.proofs.CallRowLaws.{among_some}
use Rattle.script_variables.proofs.NameOrderLaws.{relations_once}
use Rattle.qvtr_types.proofs.ReachLaws.{own_types, settled_types, all_in_reach}
use Rattle.qvtr_types.proofs.RootLaws.{one_root}
use Rattle.qvtr_types.proofs.RootVariableLaws.{roots_are}
use Rattle.script_variables.proofs.VariableLaws.{zip_weaker}
use Rattle.qvtr_types.proofs.ZipLemmas.{zip_right, zip_length}

-- what holds where a call answers, of two things that hold there
pub both_given : {X E : Type 0} (r : Result X E) (A B C : Type 0) → (A → B → C) → OnOk r A → OnOk r B → OnOk r C
both_given (Ok x) A B C h a b = h a b
both_given (Err e) A B C h a b = tt

-- the roots of all relations
settled_roots : (s : Setting) (rels : List RelationTree) (roots : List (List Var)) → AllZip (IsSettledWith s) rels roots → AllZip (AreRoots s) rels roots
settled_roots s rels roots all = zip_weaker (IsSettledWith s) (AreRoots s) (λ r its h. roots_are s r h.vars its h.declared.are h.has) rels roots all

-- ---- before the variables are in reach

module _ (s : Setting) (env : Environment) (scope : ScriptScope) (h : IsScriptScopeOf s env scope) (r : RelationTree) (vars : List Var) (own : IsDeclared s r vars) where
  -- over numbers that are those of the variables
  module _ (numbers : List (List ℕ)) (named : numbers ≡ variables_of r) where
    abbrev over : ClauseReach
    over = record { env = env; variables = numbers; relations = map (λ e. e.0) scope.relations.now; roots = scope_roots scope }

    over_is : over ≡ reach_before s (scope_roots scope) r
    over_is =
        ap (λ (e : Environment). record { env = e; variables = numbers; relations = map (λ e. e.0) scope.relations.now; roots = scope_roots scope }) (sym h.reach)
        ∙ ap (λ (names : List (List ℕ)). record { env = in_script s; variables = names; relations = map (λ e. e.0) scope.relations.now; roots = scope_roots scope }) named
        ∙ ap (λ (names : List (List ℕ)). record { env = in_script s; variables = variables_of r; relations = names; roots = scope_roots scope }) h.relations

    pub over_types : HaveTypes env.metas vars
    over_types = subst (λ (e : Environment). HaveTypes e.metas vars) h.reach (own_types s h.order r vars own)

    pub over_count : length vars ≡ length numbers
    over_count = sym (zip_length (IsVariable s r) (variables_of r) vars own.are) ∙ ap length (sym named)

    pub over_roots : HasRootTypes over
    over_roots = subst HasRootTypes (sym over_is) (record {
      count = sym (zip_length (AreRoots s) (relations_of s.script) (scope_roots scope) (settled_roots s (relations_of s.script) (scope_roots scope) h.roots)) ∙ sym (length-map (relations_of s.script) (λ x. x.name.text));
      types = settled_types s h.order (scope_roots scope) h.roots;
    })

    pub over_related : All (CallsRelated over vars) (clause_conjuncts r.when) → All (CallsRelated over vars) (clause_conjuncts r.wheres) → HasRelatedArguments s r vars (scope_roots scope)
    over_related whens wheres = record {
      whens = subst (λ (x : ClauseReach). All (CallsRelated x vars) (clause_conjuncts r.when)) over_is whens;
      wheres = subst (λ (x : ClauseReach). All (CallsRelated x vars) (clause_conjuncts r.wheres)) over_is wheres;
    }

    pub over_stands : (f : TypeFault) → IsUnrelatedFault over vars (clause_conjuncts r.when) f ⊎ IsUnrelatedFault over vars (clause_conjuncts r.wheres) f → StandsInExpressions s r vars f
    over_stands f x = ⊎_elim
        (λ when. unrelated_stands s r vars (scope_roots scope) (relations_once s.script s.target h.order) (settled_roots s (relations_of s.script) (scope_roots scope) h.roots) r.when (inl refl) f
        (subst (λ (x : ClauseReach). IsUnrelatedFault x vars (clause_conjuncts r.when) f) over_is when))
        (λ then. unrelated_stands s r vars (scope_roots scope) (relations_once s.script s.target h.order) (settled_roots s (relations_of s.script) (scope_roots scope) h.roots) r.wheres (inr refl) f
        (subst (λ (x : ClauseReach). IsUnrelatedFault x vars (clause_conjuncts r.wheres) f) over_is then))
        x

  -- they may come into reach
  pub may_come : HasRelatedArguments s r vars (scope_roots scope) → All (λ var. IsTrue (is_variable env ([], record { ty = var.ty; model = var.model }))) vars
  may_come related = subst (λ (e : Environment). All (λ var. IsTrue (is_variable e ([], record { ty = var.ty; model = var.model }))) vars) h.reach
      (all_in_reach s h.order (scope_roots scope) h.roots r vars own related)

  -- once they have
  pub come : env.variables ≡ [] → IsRelationReach s r vars (record env { variables = named_variables (variables_of r) vars }) scope
  come empty = record {
    reach = ap (λ (e : Environment). record e { variables = named_variables (variables_of r) vars }) h.reach;
    script = subst (λ (e : Environment). IsScriptScopeOf s e scope) (ap (λ (vs : _). record env { variables = vs }) empty) h;
    declared = own;
  }

-- ---- where they are in reach

module _ (s : Setting) (r : RelationTree) (vars : List Var) (env : Environment) (scope : ScriptScope) (h : IsRelationReach s r vars env scope) where
  lists : HaveOneList s
  lists called among =
      let (k, found) = among_some (relations_of s.script) called among in
      let (its, at, settled) = zip_right (IsSettledWith s) (relations_of s.script) (scope_roots scope) k called h.script.roots found in
      (settled.vars, settled.declared.are, settled.declared.only)

  one_of_roots : (called : RelationTree) (domain : DomainTree) (t u : Typing) → Contains (relations_of s.script) called → IsRoot s called domain t → IsRoot s called domain u → t ≡ u
  one_of_roots called domain t u among = let (vs, are, one) = lists called among in one_root s called (λ a b of_a of_b. one a of_a ∙ sym (one b of_b)) domain t u

  placed_here : (name : List ℕ) → IsMisplaced s.script r name → ⊥
  placed_here name = h.script.placed r name h.declared.among

  roots_there : AllZip (AreRoots s) (relations_of s.script) (scope_roots scope)
  roots_there = settled_roots s (relations_of s.script) (scope_roots scope) h.script.roots

  -- templates are resolved over them
  pub reach_for : (within : RelationScope) → env ≡ within.env.now → within.names.now ≡ scope.names.now → map (λ e. e.0) within.variables.now ≡ variables_of r → IsReachOf s r vars within
  reach_for within env_is names_are numbers = record {
    reach = h.reach ∙ env_is;
    models = ap (λ (n : ModelNames). n.models) names_are ∙ h.script.models;
    metas = ap (λ (n : ModelNames). n.metas) names_are ∙ h.script.metas;
    variables = numbers;
    order = h.script.order;
    among = h.declared.among;
    are = h.declared.are;
    declared = h.declared.faultless;
  }

  -- and clauses
  pub clause_for : (over : ClauseScope) → env ≡ over.env.now → over.variables.vars.now ≡ vars → map (λ e. e.0) over.variables.numbers.now ≡ variables_of r
      → map (λ e. e.0) over.variables.universal.now ≡ each_once (universal_names (chars scope.target.now) r)
      → over.relations.now ≡ scope.relations.now → over.roots.now ≡ scope.roots.now → IsClauseScopeOf s r over
  clause_for over env_is vars_are numbers universal relations_are roots_are =
      let shown : roots_of over ≡ scope_roots scope = ap (map (map (λ r. r.now))) roots_are in
      record {
        reach = ap (in_relation s r) vars_are ∙ h.reach ∙ env_is;
        numbers = numbers;
        universal = universal ∙ ap (λ (t : List ℕ). each_once (universal_names t r)) (sym h.script.aimed);
        are = subst (AreVariables s r) (sym vars_are) h.declared.are;
        one = subst (HaveOneType s r) (sym vars_are) h.declared.one;
        relations = ap (map {A = List ℕ × ℕ} {B = List ℕ} (λ e. e.0)) relations_are ∙ h.script.relations;
        once = relations_once s.script s.target h.script.order;
        roots = subst (AllZip (AreRoots s) (relations_of s.script)) (sym shown) roots_there;
        types = subst (All (HaveTypes s.metas)) (sym shown) (settled_types s h.script.order (scope_roots scope) h.script.roots);
        one_root = one_of_roots;
      }

  -- the relation is settled
  pub settled_here : IsInOrder env → IsSettled s r vars
  settled_here order = record { in_order = subst IsInOrder (sym h.reach) order; one = h.declared.one; bound = h.declared.bound }

  -- a fault of a clause is one of the relation, as is one of an item
  pub clause_fault : ((s : Setting) (r : RelationTree) (vars : List Var) → ((name : List ℕ) → IsMisplaced s.script r name → ⊥) → (f : TypeFault) → StandsInClauses s r vars f → StandsInExpressions s r vars f)
      → (f : TypeFault) → StandsInClauses s r vars f → StandsInExpressions s r vars f
  clause_fault told = told s r vars placed_here

  pub item_fault : ((s : Setting) (r : RelationTree) (vars : List Var) → ((name : List ℕ) → IsMisplaced s.script r name → ⊥) → (f : TypeFault) → StandsInItems s r vars f → StandsInExpressions s r vars f)
      → (f : TypeFault) → StandsInItems s r vars f → StandsInExpressions s r vars f
  item_fault told = told s r vars placed_here

  -- where none stands in clauses and in items, none stands
  pub none_here : ((s : Setting) (r : RelationTree) (vars : List Var) → in_relation s r vars ≡ env → HaveOneList s → ((f : TypeFault) → StandsInClauses s r vars f → ⊥)
      → ((f : TypeFault) → StandsInItems s r vars f → ⊥) → AreAloneRelated s r vars → (f : TypeFault) → StandsInExpressions s r vars f → ⊥)
      → ((f : TypeFault) → StandsInClauses s r vars f → ⊥) → ((f : TypeFault) → StandsInItems s r vars f → ⊥) → HasRelatedArguments s r vars (scope_roots scope)
      → (f : TypeFault) → StandsInExpressions s r vars f → ⊥
  none_here told clauses items related =
      told s r vars h.reach lists clauses items
      (alone_related s r vars (scope_roots scope) (relations_once s.script s.target h.script.order) roots_there one_of_roots related.whens related.wheres)

-- ---- a relation

module _ (s : Setting) (r : RelationTree) (stratum : ℕ) (vars : List Var) (doms : List Dom) (firsts thens : List Conj) (rel : Rel) where
  pub relation_is : (target : List ℕ) → s.target ≡ target → AreVariables s r vars → IsStratum s.script r stratum → AreParts s r vars doms firsts thens → IsMadeOf target r stratum vars doms firsts thens rel → IsRelation s r rel
  relation_is target aimed are layer parts made =
      let m : IsMadeOf s.target r stratum vars doms firsts thens rel = subst (λ (t : List ℕ). IsMadeOf t r stratum vars doms firsts thens rel) (sym aimed) made in
      let whole : IsRelation s r (record rel { vars = vars; domains = doms; whens = firsts; wheres = thens; stratum = stratum }) = record {
        named = m.named;
        top = m.top;
        vars = are;
        universal = m.universal;
        existential = m.existential;
        domains = parts.domains;
        whens = parts.whens;
        wheres = parts.wheres;
        direction = m.direction;
        stratum = layer;
      } in
      subst (IsRelation s r)
      (ap (λ (vs : List Var). record rel { vars = vs; domains = doms; whens = firsts; wheres = thens; stratum = stratum }) (sym m.variables)
      ∙ ap (λ (ds : List Dom). record rel { domains = ds; whens = firsts; wheres = thens; stratum = stratum }) (sym m.asked)
      ∙ ap (λ (cs : List Conj). record rel { whens = cs; wheres = thens; stratum = stratum }) (sym m.asked_first)
      ∙ ap (λ (cs : List Conj). record rel { wheres = cs; stratum = stratum }) (sym m.asked_then)
      ∙ ap (λ (n : ℕ). record rel { stratum = n }) (sym m.layer))
      whole
