-- What the declarations of a script say (QVT 1.3, sections 7.10.2, 7.11.1 and 7.11.2): the types of the variables of a relation, and keys.
use Rattle.std.specs.Prelude.{◌≡◌, ◌≢◌, ◌<◌, ℕ, if◌then◌else◌, List, [], ◌∷◌, ◌++◌, Option, None, Some, Ok, map, slice_get, slice_index_or, Contains}
use Rattle.std.specs.List.{filter_map}
use Rattle.std.specs.Option.{option_map}
use Rattle.mof_metamodel.specs.declared.desc.MetaDesc.{MetaDesc}
use Rattle.mof_metamodel.specs.declared.desc.ClassId.{ClassId}
use Rattle.mof_metamodel.specs.Characters.{same_name}
use Rattle.mof_metamodel.specs.Metamodels.{class_number, prop_number}
use Rattle.mof_metamodel.specs.declared.span.Span.{Span}
use Rattle.qv_syntax.specs.declared.name.Name.{Name}
use Rattle.qv_syntax.specs.declared.name.Path.{Path}
use Rattle.qv_syntax.specs.declared.type_tree.TypeTree.{TypeTree}
use Rattle.qv_syntax.specs.declared.ty.Ty.{Ty}
use Rattle.qv_syntax.specs.declared.ty.Ty.TheVariants as types
use Rattle.qv_syntax.specs.declared.query.QueryTree.{QueryTree}
use Rattle.qv_syntax.specs.declared.script.Script.{Script}
use Rattle.qv_syntax.specs.declared.script.Declaration.{Declaration}
use Rattle.qv_syntax.specs.declared.script.Declaration.TheVariants as declarations
use Rattle.qv_syntax.specs.declared.script.KeyTree.{KeyTree}
use Rattle.qv_syntax.specs.declared.script.VarsTree.{VarsTree}
use Rattle.qv_syntax.specs.declared.script.RelationTree.{RelationTree}
use Rattle.qv_syntax.specs.declared.script.DomainTree.{DomainTree}
use Rattle.qv_syntax.specs.declared.script.DomainTree.TheVariants as domains
use Rattle.ocl_environments.specs.Environments.{Environment, meta_at}
use Rattle.ocl_environments.specs.Classifiers.{named_class}
use Rattle.ocl_environments.specs.Naming.{names_of}
use Rattle.ocl_environments.specs.Written.{written}
use Rattle.script_scopes.specs.ScriptNames.{model_names}
use Rattle.script_scopes.specs.Occurrences.{WrittenProperty, relations_of, declared_names}
use Rattle.script_scopes.specs.Occurrences.Piece.{begins}
use Rattle.script_scopes.specs.Divisions.{model_of, HasPiece}
use Rattle.script_scopes.specs.Environments.{metamodel_names, place_of, slots_of}

-- ---- names of a script

abbrev pub key_in : Declaration → Option KeyTree
key_in (declarations.Key key) = Some key
key_in (declarations.Relation relation) = None
key_in (declarations.Query query) = None

abbrev pub query_in : Declaration → Option QueryTree
query_in (declarations.Key key) = None
query_in (declarations.Relation relation) = None
query_in (declarations.Query query) = Some query

abbrev pub keys_of : Script → List KeyTree
keys_of script = filter_map key_in script.declarations

abbrev pub queries_of : Script → List QueryTree
queries_of script = filter_map query_in script.declarations

abbrev pub relation_names : Script → List (List ℕ)
relation_names script = map (λ r. r.name.text) (relations_of script)

-- the names that have to be distinct: of models, metamodels, relations and queries
abbrev pub global_names : Script → List (List ℕ)
global_names script = model_names script.models ++ metamodel_names script ++ relation_names script ++ map (λ q. q.name.text) (queries_of script)

-- a name stands twice
pub record IsRepeated (names : List (List ℕ)) (name : List ℕ) : Type 0 where
  pub first : ℕ
  pub second : ℕ
  pub order : first < second
  pub one : slice_get names first ≡ Some name
  pub other : slice_get names second ≡ Some name

-- ---- the type of a variable

-- the class that a template's path names, in one metamodel alone: that of its domain's model
abbrev pub template_class : List MetaDesc → List (List ℕ) → ℕ → List (List ℕ) → Option ClassId
template_class metas names meta (class ∷ []) = option_map (λ c. record { 0 = c }) (class_number (meta_at metas meta) class)
template_class metas names meta (qualifier ∷ class ∷ []) =
    if same_name qualifier (slice_index_or names meta []) then option_map (λ c. record { 0 = c }) (class_number (meta_at metas meta) class) else None
template_class metas names meta path = None

-- the number of the metamodel of the model of this name
abbrev pub meta_of : Script → List ℕ → ℕ
meta_of script model = (slice_index_or (slots_of script) (place_of model (model_names script.models)) (record { name = []; meta = 0 })).meta

-- a template of the relation, in a domain of the model of this name, gives the variable this class
pub record IsTemplateClass (metas : List MetaDesc) (script : Script) (r : RelationTree) (v : List ℕ) (ty : Ty) : Type 0 where
  pub domain : DomainTree
  pub at : Option WrittenProperty
  pub path : Path
  pub model : List ℕ
  pub class : ClassId
  pub piece : HasPiece r domain (begins at v path)
  pub of_model : model_of domain ≡ Some model
  pub known : Contains (model_names script.models) model
  pub named : template_class metas (metamodel_names script) (meta_of script model) (names_of path) ≡ Some class
  pub is : ty ≡ types.Class (meta_of script model) class

-- a type is written for the variable: among the declarations of the relation, or in a primitive domain
pub data IsWrittenFor (r : RelationTree) (v : List ℕ) (tree : TypeTree) : Type 0 where
  variables : (vars : VarsTree) → Contains r.vars vars → Contains (declared_names vars) v → vars.ty ≡ tree → IsWrittenFor r v tree
  primitive : (root : Name) (span : Span) → Contains r.domains (domains.Primitive root tree span) → root.text ≡ v → IsWrittenFor r v tree

-- the variable has this type: the one that is written, or the class of its template
pub data HasVariableType (metas : List MetaDesc) (script : Script) (env : Environment) (r : RelationTree) (v : List ℕ) (ty : Ty) : Type 0 where
  is_written : (tree : TypeTree) → IsWrittenFor r v tree → written env tree ≡ Ok ty → HasVariableType metas script env r v ty
  template : IsTemplateClass metas script r v ty → HasVariableType metas script env r v ty

-- a data variable: it has a type, which is no class
pub record IsDataVariable (metas : List MetaDesc) (script : Script) (env : Environment) (r : RelationTree) (v : List ℕ) : Type 0 where
  pub ty : Ty
  pub has : HasVariableType metas script env r v ty
  pub data_type : (m : ℕ) (class : ClassId) → ty ≢ types.Class m class

-- ---- keys

-- the class of a key, with the number of its metamodel
abbrev pub key_class : Environment → KeyTree → Option (ℕ × ClassId)
key_class env key = named_class env (names_of key.class)

-- the number of the property of this name
abbrev pub key_property : Environment → ℕ × ClassId → List ℕ → Option ℕ
key_property env class name = prop_number (meta_at env.metas class.0) class.1.0 name
