-- Clauses that are resolved over the variables and roots of a setting: their conjuncts are those of the relation, the faults that are found
-- stand in its clauses, and where none is found none stands.
use Rattle.std.proofs.Common.{◌≡◌, ◌≢◌, ℕ, List, [], ◌∷◌, refl, sym, ◌∙◌, ap, subst, map, length, take, arith, inl, inr, Bool, true, false}
use Rattle.std.specs.Prelude.{Option, Some, None, Contains, All, position, slice_get}
use Rattle.std.specs.List.{AllZip}
use Rattle.std.proofs.lemmas.Option.{same_Some, slice_get_within}
use Rattle.std.proofs.lemmas.List.{length-map}
use Rattle.mof_metamodel.specs.Characters.{same_name}
use Rattle.qv_syntax.specs.declared.expr.Expr.{Expr}
use Rattle.qv_syntax.specs.declared.typed.Typed.{Typed}
use Rattle.qv_syntax.specs.TypedTrees.{Typing}
use Rattle.qv_syntax.specs.ProgramTypes.{typing_of}
use Rattle.qv_syntax.specs.declared.program.Var.{Var}
use Rattle.qv_syntax.specs.declared.program.Conj.{Conj}
use Rattle.qv_syntax.specs.declared.script.BlockTree.{BlockTree}
use Rattle.qv_syntax.specs.declared.script.DomainTree.{DomainTree}
use Rattle.qv_syntax.specs.declared.script.RelationTree.{RelationTree}
use Rattle.ocl_environments.specs.declared.fault.TypeFault.{TypeFault}
use Rattle.ocl_environments.specs.Environments.{Environment}
use Rattle.qvtr_types.specs.declared.resolved_conjuncts.ClauseScope.{ClauseScope}
use Rattle.script_scopes.specs.ScriptNames.{each_once}
use Rattle.script_scopes.specs.Conjuncts.{clause_conjuncts, call_of}
use Rattle.script_scopes.specs.Occurrences.{relations_of, variables_of}
use Rattle.script_scopes.specs.UniversalNames.{universal_names}
use Rattle.script_scopes.specs.ObjectModels.{CallsWith}
use Rattle.script_scopes.specs.Directions.{IsRelationName}
use Rattle.script_scopes.specs.Divisions.{IsWhenEquation, IsWhereEquation, IsUniversal}
use Rattle.script_scopes.specs.Environments.{Setting, in_relation}
use Rattle.script_scopes.specs.Declarations.{relation_names, IsRepeated}
use Rattle.script_scopes.specs.Resolutions.{IsData, AreConjuncts}
use Rattle.script_scopes.specs.Faults.{AreVariables, IsRoot}
use Rattle.qvtr_types.specs.Expressions.{IsCondition, StandsInCondition, AreArguments, StandsInGiven, StandsInArguments}
use Rattle.qvtr_types.specs.PlacedFaults.{AreRoots, IsClauseOf, StandsInClauses}
use Rattle.qvtr_types.specs.Equations.{has_equation, equation_test, equation_behind, given_after}
use Rattle.script_variables.specs.SettledRelations.{HaveOneType}
use Rattle.qvtr_types.specs.ResolvedConjuncts.{ClauseReach, reach_of, called_number, HasRootTypes, IsResolved, StandsInConjunct, AreResolved, StandsInOne}
use Rattle.qvtr_types.specs.ClauseSettings.{vars_of, roots_of, IsClauseScopeOf}
use Rattle.script_scopes.proofs.CallRowLaws.{named_by, number_by, within_some, among_some}
use Rattle.mof_metamodel.proofs.Facts.{contains_at}
use Rattle.qvtr_types.proofs.ZipLemmas.{zip_left, zip_right, zip_length}
use Rattle.qvtr_types.proofs.DataNameLaws.{when_passes, when_passed, where_passes, where_passed}
use Rattle.qvtr_types.proofs.ResolvedConjunctLaws.{reach_in, calls_number, calls_none, resolved_count, resolved_at, are_conjuncts}

-- ---- faults

module _ (s : Setting) (r : RelationTree) (vars : List Var) (roots : List (List Var)) (once : (name : List ℕ) → IsRepeated (relation_names s.script) name → ⊥)
    (all : AllZip (AreRoots s) (relations_of s.script) roots) where
  abbrev reach : ClauseReach
  reach = reach_in s r vars roots

  abbrev env : Environment
  env = in_relation s r vars

  -- the relation that a conjunct calls, with its roots
  record IsCalled (c : Expr) (name : List ℕ) (number : ℕ) : Type 0 where
    pub called : RelationTree
    pub found : slice_get (relations_of s.script) number ≡ Some called
    pub named : called.name.text ≡ name
    pub its : List Var
    pub has : slice_get roots number ≡ Some its
    pub are : AreRoots s called its

  is_called : (c : Expr) (name : List ℕ) (args : List Expr) (number : ℕ) → call_of c ≡ Some (name, args) → called_number reach c ≡ Some number → IsCalled c name number
  is_called c name args number is h =
      let (called, found, named) = named_by s.script once name number (calls_number s r vars roots c name args number is h) in
      let (its, has, are) = zip_right (AreRoots s) (relations_of s.script) roots number called all found in
      record { called = called; found = found; named = named; its = its; has = has; are = are }

  module _ (clause : Option BlockTree) (of : IsClauseOf r clause) where
    one_stands : (c : Expr) (f : TypeFault) → Contains (clause_conjuncts clause) c → StandsInConjunct reach c f → StandsInClauses s r vars f
    one_stands c f among (StandsInConjunct.arguments name args number asked is called at stands) =
        let h = is_called c name args number is called in
        let same : asked ≡ h.its = same_Some asked h.its (sym at ∙ h.has) in
        StandsInClauses.call clause h.called args h.its of
        (record {
          conjunct = c;
          among = among;
          is = subst (λ (n : List ℕ). call_of c ≡ Some (n, args)) (sym h.named) is;
          relation = contains_at (relations_of s.script) number h.called h.found;
        })
        h.are
        (subst (λ (n : List ℕ). StandsInArguments env n h.its args f) (sym h.named) (subst (λ (rs : List Var). StandsInArguments env name rs args f) same stands))
    one_stands c f among (StandsInConjunct.condition uncalled stands) = StandsInClauses.condition clause c of among (calls_none s r vars roots c uncalled) stands

    pub clause_stands : (f : TypeFault) → StandsInOne reach (clause_conjuncts clause) f → StandsInClauses s r vars f
    clause_stands f h = one_stands h.conjunct f h.among h.stands

  -- ---- none

  module _ (one_root : (called : RelationTree) (domain : DomainTree) (t u : Typing) → Contains (relations_of s.script) called → IsRoot s called domain t → IsRoot s called domain u → t ≡ u)
      (conditions : (e : Expr) (tree : Typed) → IsCondition env e tree → (f : TypeFault) → StandsInCondition env e f → ⊥)
      (arguments : (called : List ℕ) (rs : List Var) (args : List Expr) (trees : List Typed) → AreArguments env rs args trees → (f : TypeFault) → StandsInArguments env called rs args f → ⊥) where
    -- the roots of a relation ask for one type each
    same_asked : (called : RelationTree) (name : List ℕ) (args : List Expr) (a b : List Var) (f : TypeFault) → Contains (relations_of s.script) called → AreRoots s called a → AreRoots s called b
        → StandsInArguments env name a args f → StandsInArguments env name b args f
    same_asked called name args a b f among is_a is_b (StandsInArguments.count apart is) =
        StandsInArguments.count
        (λ long. apart (long ∙ sym (zip_length (λ domain root. IsRoot s called domain (typing_of root)) called.domains b is_b) ∙ zip_length (λ domain root. IsRoot s called domain (typing_of root)) called.domains a is_a)) is
    same_asked called name args a b f among is_a is_b (StandsInArguments.argument place root e at given stands) =
        let (domain, asked, of) = zip_left (λ domain root. IsRoot s called domain (typing_of root)) called.domains a place root is_a at in
        let (other, there, is) = zip_right (λ domain root. IsRoot s called domain (typing_of root)) called.domains b place domain is_b asked in
        StandsInArguments.argument place other e there given
        (subst (λ (t : Typing). StandsInGiven env t name e f) (one_root called domain (typing_of root) (typing_of other) among of is) stands)

    module _ (clause : Option BlockTree) (test : List ℕ → Bool) (cs : List Conj) (resolved : AreResolved reach test [] (clause_conjuncts clause) cs) where
      -- what a conjunct of the clause is
      at_place : (e : Expr) → Contains (clause_conjuncts clause) e → (o : Option (List ℕ × Expr)) × (c : Conj) × IsResolved reach o e c
      at_place e among =
          let (k, found) = among_some (clause_conjuncts clause) e among in
          let long = resolved_count reach test [] (clause_conjuncts clause) cs resolved in
          let below = slice_get_within (clause_conjuncts clause) k e found in
          let (c, there) = within_some cs k (omega (arith, below, long)) in
          (equation_behind test (given_after [] (take k (clause_conjuncts clause))) e, c, resolved_at reach test [] (clause_conjuncts clause) cs k e c resolved found there)

      no_condition : (e : Expr) (o : Option (List ℕ × Expr)) (c : Conj) (f : TypeFault) → IsResolved reach o e c → ((name : List ℕ) (args : List Expr) → call_of e ≡ Some (name, args) → IsRelationName s.script name → ⊥)
          → StandsInCondition env e f → ⊥
      no_condition e o _ f (IsResolved.call name args number asked trees is called at fit) none stands =
          let h = is_called e name args number is called in none name args is (h.called, contains_at (relations_of s.script) number h.called h.found, h.named)
      no_condition e o _ f (IsResolved.equation v value t whole uncalled one has boolean) none stands = conditions e whole boolean f stands
      no_condition e o _ f (IsResolved.condition t uncalled is boolean) none stands = conditions e t boolean f stands

      no_arguments : (e : Expr) (o : Option (List ℕ × Expr)) (c : Conj) (f : TypeFault) → IsResolved reach o e c → (called : RelationTree) (args : List Expr) (rs : List Var)
          → call_of e ≡ Some (called.name.text, args) → Contains (relations_of s.script) called → AreRoots s called rs → StandsInArguments env called.name.text rs args f → ⊥
      no_arguments e o _ f (IsResolved.call name others number asked trees is number_is at fit) called args rs says among are stands =
          let own : List ℕ × List Expr = (called.name.text, args) in
          let other : List ℕ × List Expr = (name, others) in
          let same : own ≡ other = same_Some own other (sym says ∙ is) in
          let (place, found) = among_some (relations_of s.script) called among in
          let there : Some place ≡ Some number =
          sym (number_by s.script once place called found) ∙ ap (λ (p : List ℕ × List Expr). position (same_name p.0) (relation_names s.script)) same ∙ calls_number s r vars roots e name others number is number_is in
          let (its, has, its_own) = zip_right (AreRoots s) (relations_of s.script) roots place called all found in
          let is_its : its ≡ asked = same_Some its asked (sym has ∙ ap (λ (k : ℕ). slice_get roots k) (same_Some place number there) ∙ at) in
          arguments called.name.text asked others trees fit f
          (subst (λ (p : List ℕ × List Expr). StandsInArguments env called.name.text asked p.1 f) same
          (same_asked called called.name.text args rs asked f among are (subst (AreRoots s called) is_its its_own) stands))
      no_arguments e o _ f (IsResolved.equation v value t whole uncalled one has boolean) called args rs says among are stands =
          calls_none s r vars roots e uncalled called.name.text args says (called, among, refl)
      no_arguments e o _ f (IsResolved.condition t uncalled is boolean) called args rs says among are stands =
          calls_none s r vars roots e uncalled called.name.text args says (called, among, refl)

    -- of both clauses
    pub none_in_clauses : (when_test where_test : List ℕ → Bool) (whens wheres : List Conj) → AreResolved reach when_test [] (clause_conjuncts r.when) whens
        → AreResolved reach where_test [] (clause_conjuncts r.wheres) wheres → (f : TypeFault) → StandsInClauses s r vars f → ⊥
    none_in_clauses when_test where_test whens wheres a b f (StandsInClauses.condition clause e (inl of) among none stands) =
        let (o, c, is) = at_place r.when when_test whens a e (subst (λ (b : Option BlockTree). Contains (clause_conjuncts b) e) of among) in no_condition r.when when_test whens a e o c f is none stands
    none_in_clauses when_test where_test whens wheres a b f (StandsInClauses.condition clause e (inr of) among none stands) =
        let (o, c, is) = at_place r.wheres where_test wheres b e (subst (λ (b : Option BlockTree). Contains (clause_conjuncts b) e) of among) in no_condition r.wheres where_test wheres b e o c f is none stands
    none_in_clauses when_test where_test whens wheres a b f (StandsInClauses.call clause called args rs (inl of) call are stands) =
        let (o, c, is) = at_place r.when when_test whens a call.conjunct (subst (λ (b : Option BlockTree). Contains (clause_conjuncts b) call.conjunct) of call.among) in
        no_arguments r.when when_test whens a call.conjunct o c f is called args rs call.is call.relation are stands
    none_in_clauses when_test where_test whens wheres a b f (StandsInClauses.call clause called args rs (inr of) call are stands) =
        let (o, c, is) = at_place r.wheres where_test wheres b call.conjunct (subst (λ (b : Option BlockTree). Contains (clause_conjuncts b) call.conjunct) of call.among) in
        no_arguments r.wheres where_test wheres b call.conjunct o c f is called args rs call.is call.relation are stands

-- ---- as the code has them

module _ (s : Setting) (r : RelationTree) (scope : ClauseScope) (h : IsClauseScopeOf s r scope) where
  abbrev own : ClauseReach
  own = reach_in s r (vars_of scope) (roots_of scope)

  reach_is : reach_of scope ≡ own
  reach_is =
      ap (λ (env : Environment). record { env = env; variables = map (λ e. e.0) scope.variables.numbers.now; relations = map (λ e. e.0) scope.relations.now; roots = roots_of scope }) (sym h.reach)
      ∙ ap (λ (names : List (List ℕ)). record { env = in_relation s r (vars_of scope); variables = names; relations = map (λ e. e.0) scope.relations.now; roots = roots_of scope }) h.numbers
      ∙ ap (λ (names : List (List ℕ)). record { env = in_relation s r (vars_of scope); variables = variables_of r; relations = names; roots = roots_of scope }) h.relations

  test_is : (wanted : Bool) → equation_test scope.variables wanted ≡ has_equation (variables_of r) (vars_of scope) (each_once (universal_names s.target r)) wanted
  test_is wanted =
      ap (λ (names : List (List ℕ)). has_equation names (vars_of scope) (map (λ e. e.0) scope.variables.universal.now) wanted) h.numbers
      ∙ ap (λ (names : List (List ℕ)). has_equation (variables_of r) (vars_of scope) names wanted) h.universal

  there : (wanted : Bool) (es : List Expr) (cs : List Conj) → AreResolved (reach_of scope) (equation_test scope.variables wanted) [] es cs
      → AreResolved own (has_equation (variables_of r) (vars_of scope) (each_once (universal_names s.target r)) wanted) [] es cs
  there wanted es cs all = subst (λ (test : List ℕ → Bool). AreResolved own test [] es cs) (test_is wanted)
      (subst (λ (x : ClauseReach). AreResolved x (equation_test scope.variables wanted) [] es cs) reach_is all)

  -- the roots have types of the metamodels in reach
  pub root_types : HasRootTypes (reach_of scope)
  root_types = subst HasRootTypes (sym reach_is)
      (record { count = sym (zip_length (AreRoots s) (relations_of s.script) (roots_of scope) h.roots) ∙ sym (length-map (relations_of s.script) (λ x. x.name.text)); types = h.types })

  pub whens_are : (cs : List Conj) → AreResolved (reach_of scope) (equation_test scope.variables true) [] (clause_conjuncts r.when) cs
      → AreConjuncts s r (vars_of scope) (IsWhenEquation (IsData s r) s.target r) (clause_conjuncts r.when) cs
  whens_are cs all = are_conjuncts s r (vars_of scope) (roots_of scope) (λ w. IsUniversal s.target r w) r.when
      (has_equation (variables_of r) (vars_of scope) (each_once (universal_names s.target r)) true)
      (when_passes s r (vars_of scope) h.are h.one) (when_passed s r (vars_of scope) h.are h.one) cs (there true (clause_conjuncts r.when) cs all)

  pub wheres_are : (cs : List Conj) → AreResolved (reach_of scope) (equation_test scope.variables false) [] (clause_conjuncts r.wheres) cs
      → AreConjuncts s r (vars_of scope) (IsWhereEquation (IsData s r) s.target r) (clause_conjuncts r.wheres) cs
  wheres_are cs all = are_conjuncts s r (vars_of scope) (roots_of scope) (λ w. IsUniversal s.target r w → ⊥) r.wheres
      (has_equation (variables_of r) (vars_of scope) (each_once (universal_names s.target r)) false)
      (where_passes s r (vars_of scope) h.are h.one) (where_passed s r (vars_of scope) h.are h.one) cs (there false (clause_conjuncts r.wheres) cs all)

  found_there : (es : List Expr) (f : TypeFault) → StandsInOne (reach_of scope) es f → StandsInOne own es f
  found_there es f = subst (λ (x : ClauseReach). StandsInOne x es f) reach_is

  pub when_stands : (f : TypeFault) → StandsInOne (reach_of scope) (clause_conjuncts r.when) f → StandsInClauses s r (vars_of scope) f
  when_stands f x = clause_stands s r (vars_of scope) (roots_of scope) h.once h.roots r.when (inl refl) f (found_there (clause_conjuncts r.when) f x)

  pub where_stands : (f : TypeFault) → StandsInOne (reach_of scope) (clause_conjuncts r.wheres) f → StandsInClauses s r (vars_of scope) f
  where_stands f x = clause_stands s r (vars_of scope) (roots_of scope) h.once h.roots r.wheres (inr refl) f (found_there (clause_conjuncts r.wheres) f x)

  pub none_there : ((e : Expr) (tree : Typed) → IsCondition scope.env.now e tree → (f : TypeFault) → StandsInCondition scope.env.now e f → ⊥)
      → ((called : List ℕ) (rs : List Var) (args : List Expr) (trees : List Typed) → AreArguments scope.env.now rs args trees → (f : TypeFault) → StandsInArguments scope.env.now called rs args f → ⊥)
      → (whens wheres : List Conj) → AreResolved (reach_of scope) (equation_test scope.variables true) [] (clause_conjuncts r.when) whens
      → AreResolved (reach_of scope) (equation_test scope.variables false) [] (clause_conjuncts r.wheres) wheres → (f : TypeFault) → StandsInClauses s r (vars_of scope) f → ⊥
  none_there conditions arguments whens wheres a b f =
      none_in_clauses s r (vars_of scope) (roots_of scope) h.once h.roots h.one_root
      (subst (λ (env : Environment). (e : Expr) (tree : Typed) → IsCondition env e tree → (f : TypeFault) → StandsInCondition env e f → ⊥) (sym h.reach) conditions)
      (subst (λ (env : Environment). (called : List ℕ) (rs : List Var) (args : List Expr) (trees : List Typed) → AreArguments env rs args trees → (f : TypeFault) → StandsInArguments env called rs args f → ⊥) (sym h.reach) arguments)
      (has_equation (variables_of r) (vars_of scope) (each_once (universal_names s.target r)) true) (has_equation (variables_of r) (vars_of scope) (each_once (universal_names s.target r)) false)
      whens wheres (there true (clause_conjuncts r.when) whens a) (there false (clause_conjuncts r.wheres) wheres b) f
