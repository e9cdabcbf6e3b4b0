-- The variables that are made of a relation of a setting are its variables, and what is refused stands.
use Rattle.std.proofs.Common.{◌≡◌, ◌⊎◌, ℕ, List, ap, sym, subst, ◌∙◌, map, true, ⊎_elim}
use Rattle.std.specs.Prelude.{All, is_some, Result, Ok, Err, OnOk, IfOk}
use Rattle.std.specs.List.{AllZip}
use Rattle.std.proofs.lemmas.List.Elements.{All-contains}
use Rattle.mof_metamodel.specs.NameTables.{NamesWith, value_of}
use Rattle.qv_syntax.specs.declared.ty.Ty.{Ty}
use Rattle.qv_syntax.specs.declared.program.Var.{Var}
use Rattle.qv_syntax.specs.declared.script.RelationTree.{RelationTree}
use Rattle.ocl_environments.specs.declared.fault.TypeFault.{TypeFault}
use Rattle.ocl_environments.specs.Environments.{Environment}
use Rattle.script_variables.specs.declared.resolved_variables.ScriptTables.{ScriptTables}
use Rattle.script_scopes.specs.ScriptNames.{model_names, each_once}
use Rattle.script_scopes.specs.Occurrences.{relations_of, variables_of}
use Rattle.script_scopes.specs.UniversalNames.{universal_names}
use Rattle.script_scopes.specs.Environments.{Setting}
use Rattle.script_scopes.specs.Declarations.{IsRepeated, relation_names}
use Rattle.script_scopes.specs.Refusals.{HasNamesInOrder}
use Rattle.script_scopes.specs.Faults.{StandsInDeclarations, AreVariables}
use Rattle.script_scopes.specs.FirstEntries.{first_entries}
use Rattle.script_scopes.specs.VariableTypes.{class_in, variable_types, AreTyped, StandsInTypes}
use Rattle.script_scopes.specs.ModelLists.{object_models, HasItsModel, IsMixFault}
use Rattle.script_variables.specs.Bindings.{IsBoundVariable, IsUnboundVariable}
use Rattle.script_variables.specs.Variables.{IsVarOf, IsModelFault}
use Rattle.script_variables.specs.SettledRelations.{HaveOneType, AllBound}
use Rattle.script_variables.specs.ScriptSettings.{shown_relations, IsOneOf}
use Rattle.script_variables.proofs.NameOrderLaws.{relations_once, model_numbers}
use Rattle.script_variables.proofs.TypeFaultLaws.{types_stand}
use Rattle.script_variables.proofs.VariableLaws.{all_typed, mix_stands, lacking_stands, unbound_stands, one_list, one_type, are_variables, data_bound, none_stands}

module _ (env : Environment) (tables : ScriptTables) (target : List ℕ) (r : RelationTree) where
  -- over an environment that is in reach
  abbrev types_over : Environment → NamesWith Ty
  types_over e = variable_types e (class_in e.metas tables.names) r

  abbrev typed_over : Environment → Type 0
  typed_over e = AreTyped e (class_in e.metas tables.names) r

  abbrev given : NamesWith (List ℕ)
  given = object_models (shown_relations tables) r

  abbrev models : NamesWith (List ℕ)
  models = first_entries given

  abbrev numbers : List (List ℕ)
  numbers = map {A = List ℕ × ℕ} {B = List ℕ} (λ e. e.0) tables.names.models

  abbrev universal_over : List ℕ → List (List ℕ)
  universal_over t = each_once (universal_names t r)

  module _ (s : Setting) (h : IsOneOf s env tables target r) where
    in_order : HasNamesInOrder (model_names s.script.models) r
    in_order = All-contains (HasNamesInOrder (model_names s.script.models)) (relations_of s.script) r h.order.relations h.among

    numbered : numbers ≡ model_names s.script.models
    numbered = ap (map {A = List ℕ × ℕ} {B = List ℕ} (λ e. e.0)) h.models ∙ model_numbers s.script s.target h.order

    once : (n : List ℕ) → ¬ IsRepeated (relation_names s.script) n
    once = relations_once s.script s.target h.order

    pub all_have : typed_over env → All (λ v. is_some (value_of (types_over env) v) ≡ true) (variables_of r)
    all_have = subst (λ (e : Environment). typed_over e → All (λ v. is_some (value_of (types_over e) v) ≡ true) (variables_of r)) h.reach
        (λ typed. all_typed s r tables.names h.models h.metas in_order numbered (shown_relations tables) h.finds once typed)

    pub types_fault : (f : TypeFault) → StandsInTypes env (class_in env.metas tables.names) r f → StandsInDeclarations s r f
    types_fault f = subst (λ (e : Environment). StandsInTypes e (class_in e.metas tables.names) r f → StandsInDeclarations s r f) h.reach
        (types_stand s r tables.names h.models h.metas in_order f)

    pub mix_fault : typed_over env → (f : TypeFault) → IsMixFault (types_over env) models given f → StandsInDeclarations s r f
    mix_fault = subst (λ (e : Environment). typed_over e → (f : TypeFault) → IsMixFault (types_over e) models given f → StandsInDeclarations s r f) h.reach
        (λ typed f. mix_stands s r tables.names h.models h.metas in_order numbered (shown_relations tables) h.finds once typed f)

    abbrev IsMadeFault : Environment → List ℕ → TypeFault → Type 0
    IsMadeFault e t f = IsModelFault (types_over e) models (variables_of r) f ⊎ IsUnboundVariable (types_over e) (universal_over t) t r (variables_of r) f

    pub made_fault : typed_over env → (f : TypeFault) → IsMadeFault env target f → StandsInDeclarations s r f
    made_fault = subst (λ (t : List ℕ). typed_over env → (f : TypeFault) → IsMadeFault env t f → StandsInDeclarations s r f) h.aimed
        (subst (λ (e : Environment). typed_over e → (f : TypeFault) → IsMadeFault e s.target f → StandsInDeclarations s r f) h.reach
        (λ typed f. ⊎_elim
        (λ lacking. lacking_stands s r tables.names h.models h.metas in_order numbered (shown_relations tables) h.finds once typed f lacking)
        (λ unbound. unbound_stands s r tables.names h.models h.metas in_order numbered (shown_relations tables) h.finds once typed f unbound)))

    pub made_variables : typed_over env → All (HasItsModel (types_over env) models) given → (vars : List Var) → AllZip (IsVarOf (types_over env) models numbers) (variables_of r) vars → AreVariables s r vars
    made_variables = subst (λ (e : Environment). typed_over e → All (HasItsModel (types_over e) models) given → (vars : List Var) → AllZip (IsVarOf (types_over e) models numbers) (variables_of r) vars → AreVariables s r vars) h.reach
        (λ typed own vars all. are_variables s r tables.names h.models h.metas in_order numbered (shown_relations tables) h.finds once typed own vars all)

    pub made_types : typed_over env → (ms : NamesWith (List ℕ)) (vars : List Var) → AllZip (IsVarOf (types_over env) ms numbers) (variables_of r) vars → HaveOneType s r vars
    made_types = subst (λ (e : Environment). typed_over e → (ms : NamesWith (List ℕ)) (vars : List Var) → AllZip (IsVarOf (types_over e) ms numbers) (variables_of r) vars → HaveOneType s r vars) h.reach
        (λ typed ms vars all. one_type s r tables.names h.models h.metas in_order numbered (shown_relations tables) h.finds once typed ms numbers vars all)

    pub made_none : typed_over env → All (HasItsModel (types_over env) models) given → (vars : List Var) → AllZip (IsVarOf (types_over env) models numbers) (variables_of r) vars
        → All (IsBoundVariable (types_over env) (universal_over target) target r) (variables_of r) → (f : TypeFault) → StandsInDeclarations s r f → ⊥
    made_none = subst (λ (t : List ℕ). typed_over env → All (HasItsModel (types_over env) models) given → (vars : List Var) → AllZip (IsVarOf (types_over env) models numbers) (variables_of r) vars
        → All (IsBoundVariable (types_over env) (universal_over t) t r) (variables_of r) → (f : TypeFault) → StandsInDeclarations s r f → ⊥) h.aimed
        (subst (λ (e : Environment). typed_over e → All (HasItsModel (types_over e) models) given → (vars : List Var) → AllZip (IsVarOf (types_over e) models numbers) (variables_of r) vars
        → All (IsBoundVariable (types_over e) (universal_over s.target) s.target r) (variables_of r) → (f : TypeFault) → StandsInDeclarations s r f → ⊥) h.reach
        (λ typed own vars all bound f. none_stands s r tables.names h.models h.metas in_order numbered (shown_relations tables) h.finds once typed own vars all bound f))

    pub made_bound : typed_over env → All (HasItsModel (types_over env) models) given → (vars : List Var) → AllZip (IsVarOf (types_over env) models numbers) (variables_of r) vars
        → All (IsBoundVariable (types_over env) (universal_over target) target r) (variables_of r) → AllBound s r
    made_bound = subst (λ (t : List ℕ). typed_over env → All (HasItsModel (types_over env) models) given → (vars : List Var) → AllZip (IsVarOf (types_over env) models numbers) (variables_of r) vars
        → All (IsBoundVariable (types_over env) (universal_over t) t r) (variables_of r) → AllBound s r) h.aimed
        (subst (λ (e : Environment). typed_over e → All (HasItsModel (types_over e) models) given → (vars : List Var) → AllZip (IsVarOf (types_over e) models numbers) (variables_of r) vars
        → All (IsBoundVariable (types_over e) (universal_over s.target) s.target r) (variables_of r) → AllBound s r) h.reach
        (λ typed own vars all bound. data_bound s r tables.names h.models h.metas in_order numbered (shown_relations tables) h.finds once typed own vars all bound))

    pub made_one : typed_over env → (a b : List Var) → AreVariables s r a → AreVariables s r b → a ≡ b
    made_one = subst (λ (e : Environment). typed_over e → (a b : List Var) → AreVariables s r a → AreVariables s r b → a ≡ b) h.reach
        (λ typed. one_list s r tables.names h.models h.metas in_order numbered (shown_relations tables) h.finds once typed)

    -- ---- of tables that are these

    module _ (T : NamesWith Ty) (t_is : T ≡ types_over env) (typed : typed_over env) where
      pub had : All (λ v. is_some (value_of T v) ≡ true) (variables_of r)
      had = subst (λ (ts : NamesWith Ty). All (λ v. is_some (value_of ts v) ≡ true) (variables_of r)) (sym t_is) (all_have typed)

      pub mixed_stands : (f : TypeFault) → IsMixFault T models given f → StandsInDeclarations s r f
      mixed_stands f x = mix_fault typed f (subst (λ (ts : NamesWith Ty). IsMixFault ts models given f) t_is x)

      pub one_of_each : (ms : NamesWith (List ℕ)) (vars : List Var) → AllZip (IsVarOf T ms numbers) (variables_of r) vars → HaveOneType s r vars
      one_of_each ms vars all = made_types typed ms vars (subst (λ (ts : NamesWith Ty). AllZip (IsVarOf ts ms numbers) (variables_of r) vars) t_is all)

      module _ (M : NamesWith (List ℕ)) (m_is : M ≡ models) where
        abbrev Made : NamesWith Ty → NamesWith (List ℕ) → TypeFault → Type 0
        Made ts ms f = IsModelFault ts ms (variables_of r) f ⊎ IsUnboundVariable ts (universal_over target) target r (variables_of r) f

        pub made_stands : (f : TypeFault) → Made T M f → StandsInDeclarations s r f
        made_stands f x = made_fault typed f (subst (λ (ms : NamesWith (List ℕ)). Made (types_over env) ms f) m_is (subst (λ (ts : NamesWith Ty). Made ts M f) t_is x))

        abbrev Vars : NamesWith Ty → NamesWith (List ℕ) → List Var → Type 0
        Vars ts ms vars = All (HasItsModel ts ms) given × AllZip (IsVarOf ts ms numbers) (variables_of r) vars

        there : (vars : List Var) → Vars T M vars → Vars (types_over env) models vars
        there vars x = subst (λ (ms : NamesWith (List ℕ)). Vars (types_over env) ms vars) m_is (subst (λ (ts : NamesWith Ty). Vars ts M vars) t_is x)

        pub are_those : All (HasItsModel T M) given → (vars : List Var) → AllZip (IsVarOf T M numbers) (variables_of r) vars → AreVariables s r vars
        are_those own vars all = let x = there vars (own, all) in made_variables typed x.0 vars x.1

        pub all_of_them_bound : All (HasItsModel T M) given → (vars : List Var) → AllZip (IsVarOf T M numbers) (variables_of r) vars
            → All (IsBoundVariable T (universal_over target) target r) (variables_of r) → AllBound s r
        all_of_them_bound own vars all bound =
            let x = there vars (own, all) in
            made_bound typed x.0 vars x.1 (subst (λ (ts : NamesWith Ty). All (IsBoundVariable ts (universal_over target) target r) (variables_of r)) t_is bound)

        pub none_of_them : All (HasItsModel T M) given → (vars : List Var) → AllZip (IsVarOf T M numbers) (variables_of r) vars
            → All (IsBoundVariable T (universal_over target) target r) (variables_of r) → (f : TypeFault) → StandsInDeclarations s r f → ⊥
        none_of_them own vars all bound f stands =
            let x = there vars (own, all) in
            made_none typed x.0 vars x.1 (subst (λ (ts : NamesWith Ty). All (IsBoundVariable ts (universal_over target) target r) (variables_of r)) t_is bound) f stands

-- what holds where a call answers, of what it answers and of what holds there
pub answered_told : {X E : Type 0} (r : Result X E) (A B : Type 0) (P : X → Type 0) → ((x : X) → A → P x → B) → OnOk r A → IfOk r P → OnOk r B
answered_told (Ok x) A B P tells also is = tells x also is
answered_told (Err e) A B P tells also is = tt
