-- The types of a relation's variables as lists (QVT 1.3, sections 7.11.1.4, 7.11.1.6 and 7.11.2): those that are written, and the classes
-- of templates. `Declarations` has the same by names.
use Rattle.std.specs.Prelude.{◌≡◌, ◌≢◌, ℕ, List, [], ◌∷◌, ◌++◌, Option, None, Some, Ok, Err, map, Contains, All, IsTrue, is_some}
use Rattle.std.specs.List.{flat_map}
use Rattle.std.specs.Option.{option_map, option_to_list, option_and_then}
use Rattle.mof_metamodel.specs.declared.desc.MetaDesc.{MetaDesc}
use Rattle.mof_metamodel.specs.declared.desc.ClassId.{ClassId}
use Rattle.mof_metamodel.specs.NameTables.{NamesWith, value_of}
use Rattle.qv_syntax.specs.declared.name.Path.{Path}
use Rattle.qv_syntax.specs.declared.type_tree.TypeTree.{TypeTree}
use Rattle.qv_syntax.specs.declared.ty.Ty.{Ty}
use Rattle.qv_syntax.specs.declared.ty.Ty.TheVariants as types
use Rattle.qv_syntax.specs.declared.query.ModelSlot.{ModelSlot}
use Rattle.qv_syntax.specs.declared.script.DomainTree.{DomainTree}
use Rattle.qv_syntax.specs.declared.script.DomainTree.TheVariants as domains
use Rattle.qv_syntax.specs.declared.script.VarsTree.{VarsTree}
use Rattle.qv_syntax.specs.declared.script.RelationTree.{RelationTree}
use Rattle.ocl_environments.specs.declared.fault.TypeFault.{TypeFault}
use Rattle.ocl_environments.specs.Environments.{Environment}
use Rattle.ocl_environments.specs.Naming.{names_of, path_text}
use Rattle.ocl_environments.specs.Written.{written}
use Rattle.ocl_environments.specs.Outcomes.{RuleResult, and_then, wrong_type}
use Rattle.ocl_types.specs.TypingScopes.{element}
use Rattle.ocl_environments.specs.declared.fault.TypeFault.TheVariants.{UnknownName}
use Rattle.script_scopes.specs.declared.written.WrittenType.{WrittenType}
use Rattle.script_scopes.specs.declared.template_classes.ModelNames.{ModelNames}
use Rattle.script_scopes.specs.Occurrences.{Piece}
use Rattle.script_scopes.specs.Occurrences.Piece.{begins, asks}
use Rattle.script_scopes.specs.Declarations.{template_class}
use Rattle.script_scopes.specs.LocatedPieces.{located}
use Rattle.script_scopes.specs.FirstEntries.{entries_onto, first_entries}

-- ---- types that are written

-- the variables of a declaration with the type that is written for them
abbrev pub written_in : VarsTree → NamesWith TypeTree
written_in vars = map (λ n. (n.text, vars.ty)) vars.names

-- the root of a primitive domain with its type
abbrev pub primitive_written : DomainTree → NamesWith TypeTree
primitive_written (domains.Pattern mark model root template span) = []
primitive_written (domains.Primitive root ty span) = (root.text, ty) ∷ []

-- the types that a relation writes for its variables, in the order of the text
abbrev pub written_types : RelationTree → NamesWith TypeTree
written_types r = flat_map written_in r.vars ++ flat_map primitive_written r.domains

-- one as the code has it
abbrev pub shown_written : WrittenType → List ℕ × TypeTree
shown_written w = (w.name.now, w.tree.now)

-- the type of a variable: no collection
abbrev pub single_type : Environment → TypeTree → RuleResult Ty
single_type env tree = and_then (written env tree) (element env.metas)

-- ---- types of variables

abbrev pub typing_of : List ℕ → RuleResult Ty → NamesWith Ty
typing_of name (Ok ty) = (name, ty) ∷ []
typing_of name (Err f) = []

-- a variable with the type that is written, if that is one of a variable
abbrev pub written_typing : Environment → List ℕ × TypeTree → NamesWith Ty
written_typing env w = typing_of w.0 (single_type env w.1)

-- such a type is written
abbrev pub HasSingle : Environment → List ℕ × TypeTree → Type 0
HasSingle env w = (ty : Ty) × (single_type env w.1 ≡ Ok ty)

-- the fault is one of the types that are written
pub record IsWrittenFault (env : Environment) (trees : NamesWith TypeTree) (fault : TypeFault) : Type 0 where
  pub name : List ℕ
  pub tree : TypeTree
  pub among : Contains trees (name, tree)
  pub is : single_type env tree ≡ Err fault

-- ---- classes of templates

-- models, each with the number of its metamodel
abbrev pub metamodel_numbers : List ModelSlot → NamesWith ℕ
metamodel_numbers slots = map (λ s. (s.name, s.meta)) slots

-- the class that a template's path names in a domain of the model of this name, with the number of its metamodel
abbrev pub class_in : List MetaDesc → ModelNames → List ℕ → Path → Option (ℕ × ClassId)
class_in metas names model path = option_and_then (λ meta. option_map (λ c. (meta, c)) (template_class metas names.metas meta (names_of path))) (value_of names.models model)

-- a variable of a class
abbrev pub object_typing : List ℕ → ℕ × ClassId → List ℕ × Ty
object_typing name class = (name, types.Class class.0 class.1)

-- the variable of a template with its class, if that is there
abbrev pub class_typing : (List ℕ → Path → Option (ℕ × ClassId)) → List ℕ × Piece → NamesWith Ty
class_typing class (model, begins at v path) = option_to_list (option_map (object_typing v) (class model path))
class_typing class (model, asks at e) = []

-- it is there
abbrev pub HasClass : (List ℕ → Path → Option (ℕ × ClassId)) → List ℕ × Piece → Type 0
HasClass class (model, begins at v path) = IsTrue (is_some (class model path))
HasClass class (model, asks at e) = Unit {0}

-- it isn't, and the fault has the path
abbrev pub LacksClass : (List ℕ → Path → Option (ℕ × ClassId)) → List ℕ × Piece → TypeFault → Type 0
LacksClass class (model, begins at v path) fault = (class model path ≡ None) × (fault ≡ UnknownName (path_text path))
LacksClass class (model, asks at e) fault = ⊥

-- the fault is one of these pieces
pub record IsClassFault (class : List ℕ → Path → Option (ℕ × ClassId)) (pieces : List (List ℕ × Piece)) (fault : TypeFault) : Type 0 where
  pub piece : List ℕ × Piece
  pub among : Contains pieces piece
  pub lacks : LacksClass class piece fault

-- ---- both

-- a template's variable that is declared has the template's class
abbrev pub IsAgreed : NamesWith Ty → List ℕ × Ty → Type 0
IsAgreed declared t = (ty : Ty) → value_of declared t.0 ≡ Some ty → ty ≡ t.1

-- it has another type, and the fault has both
abbrev pub IsOtherThan : List MetaDesc → NamesWith Ty → List ℕ × Ty → TypeFault → Type 0
IsOtherThan metas declared t fault = (ty : Ty) × (value_of declared t.0 ≡ Some ty) × (ty ≢ t.1) × (fault ≡ wrong_type metas ty t.1)

-- the fault is one of these variables
pub record IsOtherClass (metas : List MetaDesc) (declared classes : NamesWith Ty) (fault : TypeFault) : Type 0 where
  pub typing : List ℕ × Ty
  pub among : Contains classes typing
  pub other : IsOtherThan metas declared typing fault

-- ---- of a relation

abbrev pub Classes : Type 0
Classes = List ℕ → Path → Option (ℕ × ClassId)

-- the types that are written, the classes of templates, and both: the first of each variable
abbrev pub declared_types : Environment → RelationTree → NamesWith Ty
declared_types env r = flat_map (written_typing env) (written_types r)

abbrev pub template_types : Classes → RelationTree → NamesWith Ty
template_types class r = flat_map (class_typing class) (located r)

abbrev pub variable_types : Environment → Classes → RelationTree → NamesWith Ty
variable_types env class r = entries_onto (first_entries (declared_types env r)) (template_types class r)

-- each type that is written is one of a variable, each template has a class, and where a variable has both these are one
pub record AreTyped (env : Environment) (class : Classes) (r : RelationTree) : Type 0 where
  pub single : All (HasSingle env) (written_types r)
  pub known : All (HasClass class) (located r)
  pub agreed : All (IsAgreed (first_entries (declared_types env r))) (template_types class r)

-- the faults that stand where not
pub data StandsInTypes (env : Environment) (class : Classes) (r : RelationTree) (fault : TypeFault) : Type 0 where
  wrong_written : IsWrittenFault env (written_types r) fault → StandsInTypes env class r fault
  no_class : IsClassFault class (located r) fault → StandsInTypes env class r fault
  other_class : IsOtherClass env.metas (first_entries (declared_types env r)) (template_types class r) fault → StandsInTypes env class r fault
