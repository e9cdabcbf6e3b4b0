-- The faults that stand in conjuncts of a relation and in its items are those of its expressions, and no others.
use Rattle.std.proofs.Common.{◌≡◌, ℕ, List, refl, sym, ap, subst, ◌∙◌, ⊎_elim, inl, inr, arith}
use Rattle.std.specs.Prelude.{Option, Some, slice_get, Contains}
use Rattle.std.proofs.lemmas.Option.{slice_get-get_or, slice_get_cases}
use Rattle.qv_syntax.specs.declared.expr.Expr.{Expr}
use Rattle.qv_syntax.specs.declared.typed.Typed.{Typed}
use Rattle.qv_syntax.specs.declared.script.BlockTree.{BlockTree}
use Rattle.qv_syntax.specs.declared.script.RelationTree.{RelationTree}
use Rattle.qv_syntax.specs.declared.script.DomainTree.{DomainTree}
use Rattle.qv_syntax.specs.declared.program.Var.{Var}
use Rattle.qv_syntax.specs.TypedTrees.{Typing}
use Rattle.qv_syntax.specs.ProgramTypes.{typing_of}
use Rattle.ocl_environments.specs.declared.fault.TypeFault.{TypeFault}
use Rattle.ocl_environments.specs.declared.fault.TypeFault.TheVariants.{WrongCount}
use Rattle.ocl_environments.specs.declared.part.TypedPart.{TypedPart}
use Rattle.ocl_environments.specs.Environments.{Environment}
use Rattle.ocl_types.specs.TypedContext.{GivesTypedTree}
use Rattle.ocl_environments.specs.Outcomes.{wrong_type}
use Rattle.ocl_types.specs.HasType.{Stands}
use Rattle.script_scopes.specs.Usages.{calls_in}
use Rattle.script_scopes.specs.Conjuncts.{clause_conjuncts}
use Rattle.script_scopes.specs.ObjectModels.{CallsWith}
use Rattle.script_scopes.specs.Directions.{IsRelationName, IsCalledWithin, IsMisplaced}
use Rattle.script_scopes.specs.Occurrences.{relations_of}
use Rattle.script_scopes.specs.Environments.{Setting, in_relation}
use Rattle.script_scopes.specs.Faults.{IsExpression, IsExpressionOf, IsRoot, StandsInPlace, StandsInExpressions}
use Rattle.qvtr_types.specs.Expressions.{HasTyping, StandsInCondition, StandsInGiven, StandsInArguments}
use Rattle.qvtr_types.specs.PlacedFaults.{AreRoots, IsClauseOf, CallsNone, AreAloneRelated, StandsInClauses, StandsInItems}
use Rattle.qvtr_types.specs.VariableLists.{HaveOneList}
use Rattle.mof_metamodel.proofs.Facts.{contains_at}
use Rattle.qvtr_types.proofs.InRelationLaws.{typing_expression, expression_typing}
use Rattle.qvtr_types.proofs.RootLaws.{some_roots, one_root}
use Rattle.qvtr_types.proofs.ZipLemmas.{zip_left, zip_right, zip_length}

module _ (s : Setting) (r : RelationTree) (vars : List Var) where
  -- ---- where no relation's name is called in a wrong place

  module _ (placed : (name : List ℕ) → IsMisplaced s.script r name → ⊥) where
    misplaced : (clause : Option BlockTree) (e : Expr) (name : List ℕ) → IsClauseOf r clause → Contains (clause_conjuncts clause) e → IsCalledWithin s.script e name
        → IsRelationName s.script name → IsMisplaced s.script r name
    misplaced clause e name (inl when) among within named = IsMisplaced.when e (subst (λ (c : Option BlockTree). Contains (clause_conjuncts c) e) when among) within named
    misplaced clause e name (inr wheres) among within named = IsMisplaced.where_clause e (subst (λ (c : Option BlockTree). Contains (clause_conjuncts c) e) wheres among) within named

    condition_placed : (clause : Option BlockTree) (e : Expr) → IsClauseOf r clause → Contains (clause_conjuncts clause) e → CallsNone s e
        → (name : List ℕ) → Contains (calls_in e) name → ¬ IsRelationName s.script name
    condition_placed clause e of among none name calls named = placed name (misplaced clause e name of among (IsCalledWithin.part none calls) named)

    argument_placed : (clause : Option BlockTree) (called : RelationTree) (args : List Expr) (e : Expr) → IsClauseOf r clause → CallsWith s.script clause called args → Contains args e
        → (name : List ℕ) → Contains (calls_in e) name → ¬ IsRelationName s.script name
    argument_placed clause called args e of call among name calls named =
        placed name (misplaced clause call.conjunct name of call.among (IsCalledWithin.argument called.name.text args e call.is (called, call.relation, refl) among calls) named)

    -- ---- a fault of an item is one of the relation's expressions

    pub item_stands : (f : TypeFault) → StandsInItems s r vars f → StandsInExpressions s r vars f
    item_stands _ (StandsInItems.typing domain at e f piece stands) =
        StandsInExpressions.typing e f (IsExpressionOf.item domain at piece) (λ name calls named. placed name (IsMisplaced.item domain at e piece calls named)) stands
    item_stands _ (StandsInItems.unknown_property piece model class name here none) = StandsInExpressions.unknown_property piece model class name here none
    item_stands _ (StandsInItems.value at e model class name of given f here prop null expr stands) = StandsInExpressions.value at e model class name of given f here prop null expr stands
    item_stands _ (StandsInItems.nested at v path model class inner name of here prop is apart) = StandsInExpressions.nested at v path model class inner name of here prop is apart

    -- ---- as is one of a conjunct

    module _ (told : (e : Expr) (tree : Typed) (t : Typing) → HasTyping (in_relation s r vars) e tree t → IsExpression s r vars e t) where
      given_stands : (clause : Option BlockTree) (called : RelationTree) (args : List Expr) (place : ℕ) (e : Expr) (domain : DomainTree) (root : Var) (f : TypeFault)
          → IsClauseOf r clause → CallsWith s.script clause called args → slice_get args place ≡ Some e → slice_get called.domains place ≡ Some domain → IsRoot s called domain (typing_of root)
          → StandsInGiven (in_relation s r vars) (typing_of root) called.name.text e f → StandsInExpressions s r vars f
      given_stands clause called args place e domain root f of call at_arg at_domain is_root (StandsInGiven.typing stands) =
          StandsInExpressions.typing e f (IsExpressionOf.argument clause called args of call (contains_at args place e at_arg))
          (argument_placed clause called args e of call (contains_at args place e at_arg)) stands
      given_stands clause called args place e domain root f of call at_arg at_domain is_root (StandsInGiven.type tree t has apart same) =
          subst (StandsInExpressions s r vars) (sym same)
          (StandsInExpressions.argument clause called args place e domain t (typing_of root) (wrong_type s.metas root.ty t.ty) of call at_arg at_domain (told e tree t has) is_root (StandsInPlace.type apart))
      given_stands clause called args place e domain root f of call at_arg at_domain is_root (StandsInGiven.model tree t m has at apart same) =
          subst (StandsInExpressions s r vars) (sym same)
          (StandsInExpressions.argument clause called args place e domain t (typing_of root) _ of call at_arg at_domain (told e tree t has) is_root (StandsInPlace.model m at apart))

      pub clause_stands : (f : TypeFault) → StandsInClauses s r vars f → StandsInExpressions s r vars f
      clause_stands f (StandsInClauses.condition clause e of among none (StandsInCondition.typing stands)) =
          StandsInExpressions.typing e f (IsExpressionOf.condition clause of among none) (condition_placed clause e of among none) stands
      clause_stands f (StandsInClauses.condition clause e of among none (StandsInCondition.type tree t has apart same)) =
          subst (StandsInExpressions s r vars) (sym same) (StandsInExpressions.condition clause e t of among none (told e tree t has) apart)
      clause_stands f (StandsInClauses.call clause called args roots of call are (StandsInArguments.count apart same)) =
          subst (StandsInExpressions s r vars) (sym same)
          (StandsInExpressions.argument_count clause called args of call (λ long. apart (long ∙ zip_length (λ domain root. IsRoot s called domain (typing_of root)) called.domains roots are)))
      clause_stands f (StandsInClauses.call clause called args roots of call are (StandsInArguments.argument place root e at_root at_arg stands)) =
          let (domain, at_domain, is_root) = zip_left (λ domain root. IsRoot s called domain (typing_of root)) called.domains roots place root are at_root in
          given_stands clause called args place e domain root f of call at_arg at_domain is_root stands

  -- ---- where no fault stands in conjuncts and in items, none stands in expressions

  module _ (told : (e : Expr) (t : Typing) → IsExpression s r vars e t → (tree : Typed) × HasTyping (in_relation s r vars) e tree t)
      (some_roots : (called : RelationTree) → Contains (relations_of s.script) called → (roots : List Var) × AreRoots s called roots)
      (one_root : (called : RelationTree) (domain : DomainTree) (t u : Typing) → Contains (relations_of s.script) called → IsRoot s called domain t → IsRoot s called domain u → t ≡ u)
      (clauses : (f : TypeFault) → StandsInClauses s r vars f → ⊥) (items : (f : TypeFault) → StandsInItems s r vars f → ⊥)
      (alone : AreAloneRelated s r vars) where
    typing_faultless : (e : Expr) (f : TypeFault) → IsExpressionOf s r e → Stands (in_relation s r vars) e f → ⊥
    typing_faultless e f (IsExpressionOf.item domain at piece) stands = items f (StandsInItems.typing domain at e f piece stands)
    typing_faultless e f (IsExpressionOf.condition clause of among none) stands = clauses f (StandsInClauses.condition clause e of among none (StandsInCondition.typing stands))
    typing_faultless e f (IsExpressionOf.argument clause called args of call (k, within, at)) stands =
        let (roots, are) = some_roots called call.relation in
        let at_arg : slice_get args k ≡ Some e = slice_get-get_or args k e within ∙ ap Some at in
        ⊎_elim
        (λ there. clauses f (StandsInClauses.call clause called args roots of call are (StandsInArguments.argument k there.0 e there.2 at_arg (StandsInGiven.typing stands))))
        (λ past. let out = past.0 in clauses (WrongCount called.name.text) (StandsInClauses.call clause called args roots of call are (StandsInArguments.count (λ long. omega (arith, within, out, long)) refl)))
        (slice_get_cases roots k).1

    given_back : (e : Expr) (tree : Typed) (wanted given : Typing) (name : List ℕ) (f : TypeFault) → HasTyping (in_relation s r vars) e tree given → StandsInPlace s wanted given name f
        → StandsInGiven (in_relation s r vars) wanted name e f
    given_back e tree wanted given name _ has (StandsInPlace.type apart) = StandsInGiven.type tree given has apart refl
    given_back e tree wanted given name _ has (StandsInPlace.model m at apart) = StandsInGiven.model tree given m has at apart refl

    pub expressions_faultless : (f : TypeFault) → StandsInExpressions s r vars f → ⊥
    expressions_faultless _ (StandsInExpressions.typing e f of placed stands) = typing_faultless e f of stands
    expressions_faultless _ (StandsInExpressions.unknown_property piece model class name at none) = items _ (StandsInItems.unknown_property piece model class name at none)
    expressions_faultless _ (StandsInExpressions.value at e model class name of given f here prop null expr stands) = items f (StandsInItems.value at e model class name of given f here prop null expr stands)
    expressions_faultless _ (StandsInExpressions.nested at v path model class inner name of here prop is apart) = items _ (StandsInItems.nested at v path model class inner name of here prop is apart)
    expressions_faultless _ (StandsInExpressions.condition clause e t of among none expr apart) =
        let (tree, has) = told e t expr in clauses _ (StandsInClauses.condition clause e of among none (StandsInCondition.type tree t has apart refl))
    expressions_faultless _ (StandsInExpressions.argument_count clause called args of call apart) =
        let (roots, are) = some_roots called call.relation in
        clauses _ (StandsInClauses.call clause called args roots of call are
        (StandsInArguments.count (λ long. apart (long ∙ sym (zip_length (λ domain root. IsRoot s called domain (typing_of root)) called.domains roots are))) refl))
    expressions_faultless _ (StandsInExpressions.argument clause called args place e domain given wanted f of call at_arg at_domain expr is_root stands) =
        let (roots, are) = some_roots called call.relation in
        let (root, at_root, has_root) = zip_right (λ domain root. IsRoot s called domain (typing_of root)) called.domains roots place domain are at_domain in
        let same : wanted ≡ typing_of root = one_root called domain wanted (typing_of root) call.relation is_root has_root in
        let (tree, has) = told e given expr in
        clauses f (StandsInClauses.call clause called args roots of call are (StandsInArguments.argument place root e at_root at_arg
        (given_back e tree (typing_of root) given called.name.text f has (subst (λ (w : Typing). StandsInPlace s w given called.name.text f) same stands))))
    expressions_faultless _ (StandsInExpressions.alone clause called args place e domain number v var wanted of call at_arg at_domain is named found is_root apart) =
        apart (alone clause called args place e domain number v var wanted of call at_arg at_domain is named found is_root)

-- ---- over what is in reach in the relation

pub clauses_told : (s : Setting) (r : RelationTree) (vars : List Var) → ((name : List ℕ) → IsMisplaced s.script r name → ⊥) → (f : TypeFault) → StandsInClauses s r vars f → StandsInExpressions s r vars f
clauses_told s r vars placed f = clause_stands s r vars placed (typing_expression s r vars) f

pub none_told : (env : Environment) → ((e : Expr) (p : TypedPart) → GivesTypedTree env e p) → (s : Setting) (r : RelationTree) (vars : List Var) → in_relation s r vars ≡ env → HaveOneList s
    → ((f : TypeFault) → StandsInClauses s r vars f → ⊥) → ((f : TypeFault) → StandsInItems s r vars f → ⊥) → AreAloneRelated s r vars → (f : TypeFault) → StandsInExpressions s r vars f → ⊥
none_told env trees s r vars is lists clauses items alone f =
    expressions_faultless s r vars (expression_typing s r vars (subst (λ (x : Environment). (e : Expr) (p : TypedPart) → GivesTypedTree x e p) (sym is) trees))
    (λ called among. let (vs, are, one) = lists called among in some_roots s called vs are)
    (λ called d t u among. let (vs, are, one) = lists called among in one_root s called (λ a b of_a of_b. one a of_a ∙ sym (one b of_b)) d t u)
    clauses items alone f
