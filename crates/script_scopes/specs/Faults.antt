-- The faults that stand in a script over its metamodels, with their names (QVT 1.3, sections 7.10.2 and 7.11): one constructor for each
-- rule that the language has, without an order. Faults of queries are those of their typing.
use Rattle.std.specs.Prelude.{◌≡◌, ◌≢◌, ◌⊎◌, ℕ, false, List, ◌++◌, Option, None, Some, Ok, Err, length, slice_get, Contains}
use Rattle.std.specs.List.{filter_map, flat_map, AllZip}
use Rattle.mof_metamodel.specs.declared.desc.ClassId.{ClassId}
use Rattle.mof_metamodel.specs.declared.desc.PropId.{PropId}
use Rattle.qv_syntax.specs.declared.expr.Expr.{Expr}
use Rattle.qv_syntax.specs.declared.name.Path.{Path}
use Rattle.qv_syntax.specs.declared.type_tree.Kind.{Kind}
use Rattle.qv_syntax.specs.declared.type_tree.TypeTree.{TypeTree}
use Rattle.qv_syntax.specs.declared.ty.Ty.{Ty}
use Rattle.qv_syntax.specs.declared.ty.Ty.TheVariants as types
use Rattle.qv_syntax.specs.declared.typed.Values.{Values}
use Rattle.qv_syntax.specs.declared.script.BlockTree.{BlockTree}
use Rattle.qv_syntax.specs.declared.script.RelationTree.{RelationTree}
use Rattle.qv_syntax.specs.declared.script.DomainTree.{DomainTree}
use Rattle.qv_syntax.specs.declared.program.Var.{Var}
use Rattle.mof_metamodel.specs.Metamodels.{prop_number}
use Rattle.qv_syntax.specs.declared.query.QueryTree.{QueryTree}
use Rattle.qv_syntax.specs.Types.{AreRelated}
use Rattle.qv_syntax.specs.TypeRules.{HasProperty}
use Rattle.ocl_environments.specs.Environments.{meta_at, without_queries}
use Rattle.qv_syntax.specs.TypedTrees.{Typing}
use Rattle.qv_syntax.specs.ProgramTypes.{typing_of}
use Rattle.ocl_environments.specs.declared.fault.TypeFault.{TypeFault}
use Rattle.ocl_environments.specs.declared.fault.TypeFault.TheVariants.{UnknownName, WrongType, WrongCount, ModelMix, DuplicateName, Unbound, WhenCycle, CallShape, UnknownModel}
use Rattle.ocl_environments.specs.declared.part.TypedPart.{TypedPart}
use Rattle.ocl_types.specs.HasType.{HasType, Stands}
use Rattle.ocl_types.specs.Queries.{AreQueries}
use Rattle.ocl_types.specs.TypedContext as context
use Rattle.ocl_environments.specs.Naming.{names_of, path_text, type_text}
use Rattle.ocl_environments.specs.Written.{written}
use Rattle.script_scopes.specs.ScriptNames.{model_names}
use Rattle.script_scopes.specs.Usages.{calls_in}
use Rattle.script_scopes.specs.Conjuncts.{clause_conjuncts, name_alone, call_of, is_null}
use Rattle.script_scopes.specs.Occurrences.{WrittenProperty, Piece, property_of, relations_of, variables_of, template_variables, printed_name, declared_names, root_of}
use Rattle.script_scopes.specs.Occurrences.Piece.{begins, asks}
use Rattle.script_scopes.specs.Divisions.{model_of, HasPiece, IsBound}
use Rattle.script_scopes.specs.ObjectModels.{CallsWith, HasModel, HasTwoModels}
use Rattle.script_scopes.specs.Directions.{IsOnWhenCycle, IsRelationName, IsMisplaced, LeavesDirection}
use Rattle.script_scopes.specs.Environments.{Setting, in_script, in_relation, metamodel_names}
use Rattle.script_scopes.specs.Declarations.{keys_of, queries_of, global_names, IsRepeated, IsTemplateClass, IsWrittenFor, HasVariableType, template_class, meta_of}
use Rattle.script_scopes.specs.Keys.{StandsInKeys}
use Rattle.script_scopes.specs.ScriptQueries.{StandsInQueries}
use Rattle.script_scopes.specs.Resolutions.{IsVariable, IsData, model_number}

-- ---- declarations of a relation (sections 7.11.1 and 7.11.2)

abbrev pub root_where : Option (List ℕ) → List ℕ → Option (List ℕ)
root_where None root = Some root
root_where (Some model) root = None

-- the names that are declared with a type: in declarations of variables, and by primitive domains
abbrev pub typed_names : RelationTree → List (List ℕ)
typed_names r = flat_map declared_names r.vars ++ filter_map (λ d. root_where (model_of d) (root_of d)) r.domains

-- the names of the models of its domains
abbrev pub domain_models : RelationTree → List (List ℕ)
domain_models r = filter_map model_of r.domains

pub data StandsInDeclarations (s : Setting) (r : RelationTree) : TypeFault → Type 0 where
  unknown_model : (model : List ℕ) → Contains (domain_models r) model → ¬ Contains (model_names s.script.models) model → StandsInDeclarations s r (UnknownName model)
  -- a relation has at most one domain of a model
  two_domains : (model : List ℕ) → IsRepeated (domain_models r) model → StandsInDeclarations s r (DuplicateName model)
  declared_twice : (v : List ℕ) → IsRepeated (typed_names r) v → StandsInDeclarations s r (DuplicateName v)
  -- a variable has at most one template
  two_templates : (v : List ℕ) → IsRepeated (template_variables r) v → StandsInDeclarations s r (DuplicateName (printed_name v))
  -- an expression names a variable that nothing declares
  undeclared : (v : List ℕ) → Contains (variables_of r) v → ((tree : TypeTree) → ¬ IsWrittenFor r v tree) → ¬ Contains (template_variables r) v
      → StandsInDeclarations s r (UnknownName v)
  unknown_type : (v : List ℕ) (tree : TypeTree) (f : TypeFault) → IsWrittenFor r v tree → written (in_script s) tree ≡ Err f → StandsInDeclarations s r f
  collection : (v : List ℕ) (tree : TypeTree) (kind : Kind) (inner : Ty) → IsWrittenFor r v tree → written (in_script s) tree ≡ Ok (types.Coll kind inner)
      → StandsInDeclarations s r (WrongType (type_text s.metas inner) (type_text s.metas (types.Coll kind inner)))
  unknown_class : (domain : DomainTree) (at : Option WrittenProperty) (v : List ℕ) (path : Path) (model : List ℕ) → HasPiece r domain (begins at v path) → model_of domain ≡ Some model
      → Contains (model_names s.script.models) model → template_class s.metas (metamodel_names s.script) (meta_of s.script model) (names_of path) ≡ None
      → StandsInDeclarations s r (UnknownName (path_text path))
  -- a template's variable that is declared has the template's class
  other_class : (v : List ℕ) (tree : TypeTree) (declared class : Ty) → IsWrittenFor r v tree → written (in_script s) tree ≡ Ok declared
      → IsTemplateClass s.metas s.script r v class → declared ≢ class → StandsInDeclarations s r (WrongType (type_text s.metas declared) (type_text s.metas class))
  -- an object variable belongs to one model
  no_model : (v : List ℕ) (m : ℕ) (class : ClassId) → Contains (variables_of r) v → HasVariableType s.metas s.script (in_script s) r v (types.Class m class)
      → ((model : List ℕ) → ¬ HasModel s.script r v model) → StandsInDeclarations s r (Unbound (printed_name v))
  two_models : (v : List ℕ) (m : ℕ) (class : ClassId) → HasVariableType s.metas s.script (in_script s) r v (types.Class m class)
      → HasTwoModels s.script r v → StandsInDeclarations s r (ModelMix (printed_name v))
  unbound : (v : List ℕ) → Contains (variables_of r) v → IsData s r v → ¬ IsBound (IsData s r) s.target r v → StandsInDeclarations s r (Unbound (printed_name v))

-- ---- expressions of a relation (section 7.11.1.4, and OCL 2.4)

-- the variables of a relation with their types and models, where no fault stands in its declarations
abbrev pub AreVariables : Setting → RelationTree → List Var → Type 0
AreVariables s r vars = AllZip (IsVariable s r) (variables_of r) vars

-- the expression has this type, and this model of its objects
pub record IsExpression (s : Setting) (r : RelationTree) (vars : List Var) (e : Expr) (typing : Typing) : Type 0 where
  pub part : TypedPart
  pub has : HasType (in_relation s r vars) e part
  pub is : typing ≡ context.typing_of part

-- what is given where a type and a model are asked for: it has a related type, and no other model
pub data StandsInPlace (s : Setting) (wanted given : Typing) (name : List ℕ) : TypeFault → Type 0 where
  type : ¬ AreRelated s.metas given.ty wanted.ty → StandsInPlace s wanted given name (WrongType (type_text s.metas wanted.ty) (type_text s.metas given.ty))
  model : (m : ℕ) → given.model ≡ Some m → wanted.model ≢ Some m → StandsInPlace s wanted given name (ModelMix name)

-- a piece in a domain of a model, as the value at a property of a class
pub record StandsAt (s : Setting) (r : RelationTree) (piece : Piece) (model : List ℕ) (class : ClassId) (name : List ℕ) : Type 0 where
  pub domain : DomainTree
  pub at : WrittenProperty
  pub has : HasPiece r domain piece
  pub holder : property_of piece ≡ Some at
  pub of_model : model_of domain ≡ Some model
  pub known : Contains (model_names s.script.models) model
  pub is_class : template_class s.metas (metamodel_names s.script) (meta_of s.script model) (names_of at.class) ≡ Some class
  pub named : at.name ≡ name

-- the property of this name, with the type of its values
pub record IsProperty (s : Setting) (model : List ℕ) (class : ClassId) (name : List ℕ) (of : Ty) : Type 0 where
  pub prop : PropId
  pub gives : Values
  pub found : prop_number (meta_at s.metas (meta_of s.script model)) class.0 name ≡ Some prop.0
  pub has : HasProperty s.metas (types.Class (meta_of s.script model) class) prop gives of

-- an expression of a relation: a value of an item, a condition, an equation or an argument
pub data IsExpressionOf (s : Setting) (r : RelationTree) (e : Expr) : Type 0 where
  item : (domain : DomainTree) (at : Option WrittenProperty) → HasPiece r domain (asks at e) → IsExpressionOf s r e
  condition : (clause : Option BlockTree) → (clause ≡ r.when) ⊎ (clause ≡ r.wheres) → Contains (clause_conjuncts clause) e
      → ((name : List ℕ) (args : List Expr) → call_of e ≡ Some (name, args) → ¬ IsRelationName s.script name) → IsExpressionOf s r e
  argument : (clause : Option BlockTree) (called : RelationTree) (args : List Expr) → (clause ≡ r.when) ⊎ (clause ≡ r.wheres)
      → CallsWith s.script clause called args → Contains args e → IsExpressionOf s r e

-- the root of a domain of a relation, with its type and model
pub record IsRoot (s : Setting) (r : RelationTree) (domain : DomainTree) (typing : Typing) : Type 0 where
  pub vars : List Var
  pub are : AreVariables s r vars
  pub place : ℕ
  pub var : Var
  pub named : slice_get (variables_of r) place ≡ Some (root_of domain)
  pub found : slice_get vars place ≡ Some var
  pub is : typing ≡ typing_of var

pub data StandsInExpressions (s : Setting) (r : RelationTree) (vars : List Var) : TypeFault → Type 0 where
  -- where no relation's name is called in a wrong place
  typing : (e : Expr) (f : TypeFault) → IsExpressionOf s r e → ((name : List ℕ) → Contains (calls_in e) name → ¬ IsRelationName s.script name)
      → Stands (in_relation s r vars) e f → StandsInExpressions s r vars f
  -- an item is one of a property of its template's class
  unknown_property : (piece : Piece) (model : List ℕ) (class : ClassId) (name : List ℕ) → StandsAt s r piece model class name
      → prop_number (meta_at s.metas (meta_of s.script model)) class.0 name ≡ None → StandsInExpressions s r vars (UnknownName name)
  -- its value is `null`, or has the property's type or a related class, and the domain's model
  value : (at : Option WrittenProperty) (e : Expr) (model : List ℕ) (class : ClassId) (name : List ℕ) (of : Ty) (given : Typing) (f : TypeFault)
      → StandsAt s r (asks at e) model class name → IsProperty s model class name of → is_null e ≡ false → IsExpression s r vars e given
      → StandsInPlace s (record { ty = of; model = Some (model_number s model) }) given name f → StandsInExpressions s r vars f
  -- a nested template has a related class
  nested : (at : Option WrittenProperty) (v : List ℕ) (path : Path) (model : List ℕ) (class inner : ClassId) (name : List ℕ) (of : Ty)
      → StandsAt s r (begins at v path) model class name → IsProperty s model class name of
      → template_class s.metas (metamodel_names s.script) (meta_of s.script model) (names_of path) ≡ Some inner
      → ¬ AreRelated s.metas (types.Class (meta_of s.script model) inner) of
      → StandsInExpressions s r vars (WrongType (type_text s.metas of) (type_text s.metas (types.Class (meta_of s.script model) inner)))
  -- a conjunct that is no call is a Boolean
  condition : (clause : Option BlockTree) (e : Expr) (t : Typing) → (clause ≡ r.when) ⊎ (clause ≡ r.wheres) → Contains (clause_conjuncts clause) e
      → ((name : List ℕ) (args : List Expr) → call_of e ≡ Some (name, args) → ¬ IsRelationName s.script name)
      → IsExpression s r vars e t → t.ty ≢ types.Bool → StandsInExpressions s r vars (WrongType (type_text s.metas types.Bool) (type_text s.metas t.ty))
  -- a call has an argument for each domain
  argument_count : (clause : Option BlockTree) (called : RelationTree) (args : List Expr) → (clause ≡ r.when) ⊎ (clause ≡ r.wheres)
      → CallsWith s.script clause called args → length args ≢ length called.domains → StandsInExpressions s r vars (WrongCount called.name.text)
  -- each fits the root of its domain
  argument : (clause : Option BlockTree) (called : RelationTree) (args : List Expr) (place : ℕ) (e : Expr) (domain : DomainTree) (given wanted : Typing) (f : TypeFault)
      → (clause ≡ r.when) ⊎ (clause ≡ r.wheres) → CallsWith s.script clause called args → slice_get args place ≡ Some e → slice_get called.domains place ≡ Some domain
      → IsExpression s r vars e given → IsRoot s called domain wanted → StandsInPlace s wanted given called.name.text f → StandsInExpressions s r vars f
  -- where it is a variable alone, that has the type of the root or a related class; said of the variable itself, whether or not it may be in reach
  alone : (clause : Option BlockTree) (called : RelationTree) (args : List Expr) (place : ℕ) (e : Expr) (domain : DomainTree) (number : ℕ) (v : List ℕ) (var : Var) (wanted : Typing)
      → (clause ≡ r.when) ⊎ (clause ≡ r.wheres) → CallsWith s.script clause called args → slice_get args place ≡ Some e → slice_get called.domains place ≡ Some domain
      → name_alone e ≡ Some v → slice_get (variables_of r) number ≡ Some v → slice_get vars number ≡ Some var → IsRoot s called domain wanted → ¬ AreRelated s.metas var.ty wanted.ty
      → StandsInExpressions s r vars (WrongType (type_text s.metas wanted.ty) (type_text s.metas var.ty))

-- ---- the whole

-- a relation's name is called in a query
abbrev pub IsCalledInQuery : Setting → List ℕ → Type 0
IsCalledInQuery s name = (query : QueryTree) × Contains (queries_of s.script) query × Contains (calls_in query.body) name × IsRelationName s.script name

-- the queries are those of the script, typed
abbrev pub HasQueries : Setting → Type 0
HasQueries s = AreQueries (without_queries (in_script s)) (queries_of s.script) (in_script s) s.queries

pub data StandsInScript (s : Setting) : TypeFault → Type 0 where
  target : ¬ Contains (model_names s.script.models) s.target → StandsInScript s (UnknownModel s.target)
  -- names of models, metamodels, relations and queries are distinct
  name : (name : List ℕ) → IsRepeated (global_names s.script) name → StandsInScript s (DuplicateName name)
  key : (f : TypeFault) → StandsInKeys (in_script s) (keys_of s.script) f → StandsInScript s f
  -- queries have the types that they write, and none comes to itself by calls
  query : (f : TypeFault) → StandsInQueries (without_queries (in_script s)) (queries_of s.script) f → StandsInScript s f
  declaration : (r : RelationTree) (f : TypeFault) → Contains (relations_of s.script) r → StandsInDeclarations s r f → StandsInScript s f
  -- an expression may call the queries, so these are typed first
  expression : (r : RelationTree) (vars : List Var) (f : TypeFault) → HasQueries s → Contains (relations_of s.script) r → AreVariables s r vars → StandsInExpressions s r vars f → StandsInScript s f
  -- a relation is called by a conjunct, and from the direction in the direction
  misplaced : (r : RelationTree) (name : List ℕ) → Contains (relations_of s.script) r → IsMisplaced s.script r name → StandsInScript s (CallShape name)
  misplaced_in_query : (name : List ℕ) → IsCalledInQuery s name → StandsInScript s (CallShape name)
  direction : (r called : RelationTree) → Contains (relations_of s.script) r → LeavesDirection s.script s.target r called → StandsInScript s (CallShape called.name.text)
  -- no call in a when clause lies on a cycle
  cycle : (r : RelationTree) → Contains (relations_of s.script) r → IsOnWhenCycle s.script r → StandsInScript s (WhenCycle r.name.text)
