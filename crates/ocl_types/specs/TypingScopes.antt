-- Names of variables, the types that they are given, and `let` (OCL 2.4, section 7.4.3).
use Rattle.std.specs.Prelude.{ℕ, List, [], ◌∷◌, Option, None, Some, Ok, Err}
use Rattle.mof_metamodel.specs.declared.desc.MetaDesc.{MetaDesc}
use Rattle.mof_metamodel.specs.declared.desc.EnumId.{EnumId}
use Rattle.qv_syntax.specs.declared.name.Path.{Path}
use Rattle.qv_syntax.specs.declared.ty.Ty.{Ty}
use Rattle.qv_syntax.specs.declared.ty.Ty.TheVariants as types
use Rattle.qv_syntax.specs.declared.type_tree.Kind.{Kind}
use Rattle.qv_syntax.specs.declared.type_tree.TypeTree.{TypeTree}
use Rattle.qv_syntax.specs.declared.typed.Node.TheVariants as nodes
use Rattle.ocl_environments.specs.declared.fault.TypeFault.TheVariants.{UnknownName}
use Rattle.ocl_environments.specs.declared.part.TypedPart.{TypedPart}
use Rattle.ocl_environments.specs.declared.variable.Variable.{Variable}
use Rattle.ocl_environments.specs.Environments.{Environment, number_of, value_of}
use Rattle.ocl_environments.specs.Naming.{names_of, joined_names}
use Rattle.ocl_environments.specs.Classifiers.{named_literal}
use Rattle.ocl_environments.specs.Written.{written}
use Rattle.ocl_environments.specs.Outcomes.{RuleResult, and_then, wrong_type}
use Rattle.ocl_environments.specs.Agreement.{collection_parts}
use Rattle.ocl_environments.specs.Lets.{free_name}
use Rattle.ocl_environments.specs.Parts.{tree_of, plain_part}

-- ---- variables and literals

-- the variable, of its number and of what it stands for, if there are these
abbrev pub variable_by : List ℕ → Option ℕ → Option Variable → RuleResult TypedPart
variable_by name (Some number) (Some v) = Ok (record { ty = v.ty; model = v.model; node = nodes.Variable number })
variable_by name (Some number) None = Err (UnknownName name)
variable_by name None v = Err (UnknownName name)

-- a variable that is in reach
abbrev pub variable_part : Environment → List ℕ → RuleResult TypedPart
variable_part env name = variable_by name (number_of env.variables name) (value_of env.variables name)

abbrev pub literal_by : List (List ℕ) → Option (ℕ × EnumId × ℕ) → RuleResult TypedPart
literal_by names (Some l) = Ok (plain_part (types.Enum l.0 l.1) (nodes.EnumLiteral l.0 l.1 l.2))
literal_by names None = Err (UnknownName (joined_names names))

-- a name alone is a variable, and a longer path is a literal of an enumeration
abbrev pub names_part : Environment → List (List ℕ) → RuleResult TypedPart
names_part env (name ∷ []) = variable_part env name
names_part env names = literal_by names (named_literal env names)

unfoldable pub path_part : Environment → Path → RuleResult TypedPart
path_part env path = names_part env (names_of path)

-- ---- the types of variables

-- of these parts of a collection type
abbrev pub no_collection : List MetaDesc → Ty → Option (Kind × Ty) → RuleResult Ty
no_collection metas ty None = Ok ty
no_collection metas ty (Some (kind, inner)) = Err (wrong_type metas inner ty)

-- the type of an element: no collection
abbrev pub element : List MetaDesc → Ty → RuleResult Ty
element metas ty = no_collection metas ty (collection_parts ty)

abbrev pub flat_by : List MetaDesc → Ty → Option (Kind × Ty) → RuleResult Ty
flat_by metas ty None = Ok ty
flat_by metas ty (Some (kind, inner)) = and_then (element metas inner) (λ of. Ok ty)

-- a type that isn't a collection of collections
abbrev pub flat : List MetaDesc → Ty → RuleResult Ty
flat metas ty = flat_by metas ty (collection_parts ty)

-- the type that is written for a variable
abbrev pub declared_type : Environment → TypeTree → RuleResult Ty
declared_type env tree = and_then (written env tree) (flat env.metas)

-- ---- let

-- what `let name : type` says, before the value
abbrev pub let_type : Environment → List ℕ → TypeTree → RuleResult Ty
let_type env name tree = and_then (free_name env name) (λ u. declared_type env tree)

-- the whole, of the number of its variable
unfoldable pub let_part : ℕ → TypedPart → TypedPart → TypedPart
let_part number value body = record { ty = body.ty; model = body.model; node = nodes.Let number (tree_of value) (tree_of body) }
