-- A script that is resolved part by part: its parts are over one setting, the faults that stand in its parts stand in it, and no others do.
use Rattle.std.proofs.Common.{◌≡◌, ℕ, List, [], ◌∷◌, map, length, refl, sym, ap, subst, ◌∙◌}
use Rattle.std.specs.Prelude.{Ok, Err, Contains, chars}
use Rattle.std.specs.List.{AllZip}
use Rattle.mof_metamodel.specs.declared.desc.MetaDesc.{MetaDesc}
use Rattle.mof_metamodel.specs.NameTables.{NamesWith, value_of}
use Rattle.qv_syntax.specs.declared.query.Query.{Query}
use Rattle.qv_syntax.specs.declared.query.QueryTree.{QueryTree}
use Rattle.qv_syntax.specs.declared.program.Key.{Key}
use Rattle.qv_syntax.specs.declared.program.Rel.{Rel}
use Rattle.qv_syntax.specs.declared.program.Var.{Var}
use Rattle.qv_syntax.specs.declared.script.RelationTree.{RelationTree}
use Rattle.qv_syntax.specs.declared.script.Script.{Script}
use Rattle.ocl_environments.specs.declared.fault.TypeFault.{TypeFault}
use Rattle.ocl_environments.specs.declared.variable.Signature.{Signature}
use Rattle.ocl_environments.specs.Environments.{Environment, without_queries}
use Rattle.ocl_environments.specs.Outcomes.{RuleResult}
use Rattle.ocl_types.specs.Queries.{AreQueries}
use Rattle.ocl_types.specs.QueryTyping.{queries_typed, signed}
use Rattle.script_scopes.specs.ScriptNames.{model_names, each_once}
use Rattle.script_scopes.specs.Occurrences.{relations_of, variables_of}
use Rattle.script_scopes.specs.Directions.{IsMisplaced, LeavesDirection, IsOnWhenCycle}
use Rattle.script_scopes.specs.Environments.{Setting, in_script, slots_of, metamodel_names}
use Rattle.script_scopes.specs.Declarations.{keys_of, queries_of, relation_names, global_names, IsRepeated}
use Rattle.script_scopes.specs.FirstEntries.{first_entries}
use Rattle.script_scopes.specs.Keys.{StandsInKeys, AreKeys}
use Rattle.script_scopes.specs.ModelLists.{named_relations}
use Rattle.script_scopes.specs.ScriptQueries.{StandsInQueries}
use Rattle.script_scopes.specs.Refusals.{AreInOrder}
use Rattle.script_scopes.specs.Resolutions.{IsVariable, IsRelation, IsProgramOf}
use Rattle.script_scopes.specs.Faults.{HasQueries, IsCalledInQuery, StandsInExpressions, StandsInScript}
use Rattle.script_scopes.specs.VariableTypes.{metamodel_numbers}
use Rattle.script_scopes.proofs.CallRowLaws.{among_some, once_all, relations_once}
use Rattle.script_variables.specs.declared.resolved_variables.ScriptTables.{ScriptTables}
use Rattle.script_variables.specs.ScriptSettings.{AreOfScript, StandsInOneOf}
use Rattle.script_variables.specs.SettledRelations.{IsSettled}
use Rattle.script_variables.proofs.PlaceLaws.{at_place}
use Rattle.script_variables.proofs.VariableLaws.{zip_weaker}
use Rattle.qvtr_types.specs.declared.relations.ScriptScope.{ScriptScope}
use Rattle.qvtr_types.specs.RootVariables.{AreRootsOf}
use Rattle.qvtr_types.specs.ScriptScopes.{IsDeclared, IsSettledWith, IsScriptScopeOf, scope_roots}
use Rattle.qvtr_types.specs.ResolvedScripts.{setting_of, IsFaultOf, IsScriptReach, IsResolvedTo, program_of}
use Rattle.qvtr_types.proofs.ZipLemmas.{zip_right, zip_length}

-- ---- relations

-- what is known of a relation that is resolved
pub resolved_to : (s : Setting) (r : RelationTree) (vars : List Var) (rel : Rel) → rel.vars ≡ vars → IsDeclared s r vars → IsRelation s r rel → IsSettled s r vars → ((f : TypeFault) → StandsInExpressions s r vars f → ⊥) → IsResolvedTo s r rel
resolved_to s r vars rel same own is settled none = record {
  is = is;
  declared = subst (IsDeclared s r) (sym same) own;
  settled = subst (IsSettled s r) (sym same) settled;
  faultless = λ f stands. none f (subst (λ (vs : List Var). StandsInExpressions s r vs f) same stands);
}

-- the roots of relations with their variables
settled_with : (s : Setting) (rels : List RelationTree) (vars roots : List (List Var)) → AllZip (IsDeclared s) rels vars → AreRootsOf rels vars roots → AllZip (IsSettledWith s) rels roots
settled_with s [] [] [] all has = tt
settled_with s [] [] (its ∷ roots) all has = absurd has
settled_with s [] (vs ∷ vars) roots all has = absurd all
settled_with s (r ∷ rels) [] roots all has = absurd all
settled_with s (r ∷ rels) (vs ∷ vars) [] all has = absurd has
settled_with s (r ∷ rels) (vs ∷ vars) (its ∷ roots) all has = (record { vars = vs; declared = all.0; has = has.0 }, settled_with s rels vars roots all.1 has.1)

-- each variable has a number
pub variables_counted : (s : Setting) (rels : List RelationTree) (vars : List (List Var)) → AllZip (IsDeclared s) rels vars → AllZip (λ r vs. length (variables_of r) ≡ length vs) rels vars
variables_counted s rels vars all =
    zip_weaker (IsDeclared s) (λ r vs. length (variables_of r) ≡ length vs) (λ r vs own. zip_length (IsVariable s r) (variables_of r) vs own.are) rels vars all

module _ (s : Setting) (env : Environment) (script : Script) (target : List ℕ) (h : IsScriptReach s env script target) where
  pub names_once : (name : List ℕ) → IsRepeated (global_names script) name → ⊥
  names_once name twice = h.order.distinct name (subst (λ (x : Script). IsRepeated (global_names x) name) (sym h.of_script) twice)

  -- variables are resolved over it
  pub of_script : (tables : ScriptTables) → tables.names.models ≡ first_entries (metamodel_numbers (slots_of script)) → tables.names.metas ≡ metamodel_names script
      → ((n : List ℕ) → value_of (map (λ e. (e.0, e.1.now)) tables.relations) n ≡ value_of (named_relations (relations_of script)) n)
      → (rs : List RelationTree) → rs ≡ relations_of script → AreOfScript s env tables target rs
  of_script tables models metas finds rs are r among = record {
    reach = h.reach;
    aimed = h.aimed;
    models = models ∙ ap (λ (x : Script). first_entries (metamodel_numbers (slots_of x))) (sym h.of_script);
    metas = metas ∙ ap metamodel_names (sym h.of_script);
    finds = λ n. finds n ∙ ap (λ (x : Script). value_of (named_relations (relations_of x)) n) (sym h.of_script);
    order = h.order;
    among = subst (λ (x : Script). Contains (relations_of x) r) (sym h.of_script) (subst (λ (xs : List RelationTree). Contains xs r) are among);
  }

  -- and so are relations
  pub script_scope : (scope : ScriptScope) (rs : List RelationTree) (vars : List (List Var)) → rs ≡ relations_of script → target ≡ chars scope.target.now
      → scope.names.now.models ≡ first_entries (metamodel_numbers (slots_of script)) → scope.names.now.metas ≡ metamodel_names script
      → map (λ e. e.0) scope.relations.now ≡ each_once (relation_names script) → AllZip (IsDeclared s) rs vars → AreRootsOf rs vars (scope_roots scope) → IsScriptScopeOf s env scope
  script_scope scope rs vars are aimed models metas numbers declared roots = record {
    reach = h.reach;
    aimed = h.aimed ∙ aimed;
    models = models ∙ ap (λ (x : Script). first_entries (metamodel_numbers (slots_of x))) (sym h.of_script);
    metas = metas ∙ ap metamodel_names (sym h.of_script);
    order = h.order;
    placed = h.placed;
    relations = numbers ∙ once_all (relation_names script) (relations_once script names_once) ∙ ap relation_names (sym h.of_script);
    roots = subst (λ (x : List RelationTree). AllZip (IsSettledWith s) x (scope_roots scope)) (are ∙ ap relations_of (sym h.of_script))
        (settled_with s rs vars (scope_roots scope) declared roots);
  }

  -- a fault of declarations is one of the script
  pub declared_stands : (rs : List RelationTree) → rs ≡ relations_of script → (f : TypeFault) → StandsInOneOf s rs f → StandsInScript s f
  declared_stands rs are f one = StandsInScript.declaration one.r f
      (subst (λ (xs : List RelationTree). Contains xs one.r) (are ∙ ap relations_of (sym h.of_script)) one.among) one.stands

-- ---- no fault

module _ (s : Setting) (order : AreInOrder s.script s.target)
    (placed : (r : RelationTree) (name : List ℕ) → Contains (relations_of s.script) r → IsMisplaced s.script r name → ⊥)
    (in_queries : (name : List ℕ) → IsCalledInQuery s name → ⊥)
    (inside : (r called : RelationTree) → Contains (relations_of s.script) r → LeavesDirection s.script s.target r called → ⊥)
    (layers : (r : RelationTree) → Contains (relations_of s.script) r → IsOnWhenCycle s.script r → ⊥)
    (keys : (f : TypeFault) → StandsInKeys (in_script s) (keys_of s.script) f → ⊥)
    (queries : (f : TypeFault) → StandsInQueries (without_queries (in_script s)) (queries_of s.script) f → ⊥)
    (rels : List Rel) (resolved : AllZip (IsResolvedTo s) (relations_of s.script) rels) where
  resolved_at : (r : RelationTree) → Contains (relations_of s.script) r → (rel : Rel) × IsResolvedTo s r rel
  resolved_at r among =
      let (k, found) = among_some (relations_of s.script) r among in
      let (rel, at, own) = zip_right (IsResolvedTo s) (relations_of s.script) rels k r resolved found in
      (rel, own)

  pub none_in_script : (f : TypeFault) → StandsInScript s f → ⊥
  none_in_script _ (StandsInScript.target none) = none order.aimed
  none_in_script _ (StandsInScript.name name twice) = order.distinct name twice
  none_in_script _ (StandsInScript.key f stands) = keys f stands
  none_in_script _ (StandsInScript.query f stands) = queries f stands
  none_in_script _ (StandsInScript.declaration r f among stands) = (resolved_at r among).1.declared.faultless f stands
  none_in_script _ (StandsInScript.expression r others f typed among are stands) =
      let (rel, own) = resolved_at r among in
      own.faultless f (subst (λ (xs : List Var). StandsInExpressions s r xs f) (own.declared.only others are) stands)
  none_in_script _ (StandsInScript.misplaced r name among is) = placed r name among is
  none_in_script _ (StandsInScript.misplaced_in_query name is) = in_queries name is
  none_in_script _ (StandsInScript.direction r called among is) = inside r called among is
  none_in_script _ (StandsInScript.cycle r among is) = layers r among is

-- ---- from outside

-- the queries that a typing gives
abbrev queries_in : RuleResult (Environment × List Query) → List Query
queries_in (Ok typed) = typed.1
queries_in (Err f) = []

module _ (metas : List MetaDesc) (script : Script) (target : List ℕ) (env : Environment) (bare : env ≡ in_script (setting_of metas script target []))
    (only : (qs : List QueryTree) (bound : Environment) (all : List Query) → AreQueries env qs bound all → queries_typed env qs ≡ Ok (bound, all)) where
  abbrev over : List Query → Setting
  over queries = setting_of metas script target queries

  typed_only : (typed : List Query) → HasQueries (over typed) → queries_typed env (queries_of script) ≡ Ok (in_script (over typed), typed)
  typed_only typed has = only (queries_of script) (in_script (over typed)) typed (subst (λ (e : Environment). AreQueries e (queries_of script) (in_script (over typed)) typed) (sym bare) has)

  -- one that stands whichever the queries
  pub fault_anyhow : (f : TypeFault) → ((s : Setting) → s.metas ≡ metas → s.script ≡ script → s.target ≡ target → StandsInScript s f) → IsFaultOf metas script target f
  fault_anyhow f stands = record {
    queries = queries_in (queries_typed env (queries_of script));
    settled = λ typed has. ap queries_in (typed_only typed has);
    stands = stands (over (queries_in (queries_typed env (queries_of script)))) refl refl refl;
  }

  pub query_fault : (f : TypeFault) → StandsInQueries env (queries_of script) f → IsFaultOf metas script target f
  query_fault f stands = record {
    queries = queries_in (queries_typed env (queries_of script));
    settled = λ typed has. ap queries_in (typed_only typed has);
    stands = StandsInScript.query f (subst (λ (e : Environment). StandsInQueries e (queries_of script) f) bare stands);
  }

  -- where queries are brought into reach
  module _ (after : Environment) (queries : List Query) (kept : without_queries after ≡ without_queries env) (in_reach : after.queries ≡ map signed queries) where
    pub reach_after : after ≡ in_script (over queries)
    reach_after =
        ap (λ (e : Environment). record e { queries = after.queries }) (kept ∙ ap without_queries bare)
        ∙ ap (λ (qs : NamesWith Signature). record (in_script (over [])) { queries = qs }) in_reach

    module _ (typed : AreQueries env (queries_of script) (record after { variables = [] }) queries) where
      pub has_queries : HasQueries (over queries)
      has_queries =
          subst (λ (e : Environment). AreQueries e (queries_of script) (in_script (over queries)) queries) bare
          (subst (λ (e : Environment). AreQueries env (queries_of script) (record e { variables = [] }) queries) reach_after typed)

      same_queries : (others : List Query) → HasQueries (over others) → queries ≡ others
      same_queries others has = ap queries_in (sym (typed_only queries has_queries) ∙ typed_only others has)

      -- one that stands over them
      pub fault_over : (f : TypeFault) → StandsInScript (over queries) f → IsFaultOf metas script target f
      fault_over f stands = record { queries = queries; settled = same_queries; stands = stands }

      pub none_over : ((f : TypeFault) → StandsInScript (over queries) f → ⊥) → (f : TypeFault) → IsFaultOf metas script target f → ⊥
      none_over none f fault = none f (subst (λ (qs : List Query). StandsInScript (over qs) f) (fault.settled queries has_queries) fault.stands)

      pub is_reach : AreInOrder script target → ((r : RelationTree) (name : List ℕ) → Contains (relations_of script) r → IsMisplaced script r name → ⊥) → IsScriptReach (over queries) after script target
      is_reach order placed = record { reach = sym reach_after; of_script = refl; aimed = refl; order = order; placed = placed; typed = has_queries }

      pub is_program : AreInOrder script target → (keys : List Key) → AreKeys (in_script (over queries)) (keys_of script) keys → (rels : List Rel) → AllZip (IsRelation (over queries)) (relations_of script) rels
          → IsProgramOf (over queries) (program_of script target keys rels queries)
      is_program order keys are rels resolved = record {
        named = refl;
        models = refl;
        aimed = at_place target (model_names script.models) order.aimed;
        keys = are;
        rels = resolved;
        typed_queries = has_queries;
        queries = refl;
      }
