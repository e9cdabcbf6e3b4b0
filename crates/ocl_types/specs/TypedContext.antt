-- Typed trees over an environment: what an expression may name by numbers, and that typing gives trees in which each node has the type
-- that it should have (OCL 2.4, chapters 8 and 11).
use Rattle.std.specs.Prelude.{ℕ, List, map, Contains, IsTrue}
use Rattle.mof_metamodel.specs.declared.desc.MetaDesc.{MetaDesc}
use Rattle.qv_syntax.specs.declared.ty.Ty.{Ty}
use Rattle.qv_syntax.specs.declared.expr.Expr.{Expr}
use Rattle.qv_syntax.specs.declared.query.Query.{Query}
use Rattle.qv_syntax.specs.Types.{IsWrittenType, ConformsTo}
use Rattle.qv_syntax.specs.TypedTrees.{QueryType, Context, Typing, Variables, without_model, IsTyped}
use Rattle.ocl_environments.specs.declared.part.TypedPart.{TypedPart}
use Rattle.ocl_environments.specs.declared.variable.Variable.{Variable}
use Rattle.ocl_environments.specs.declared.variable.Signature.{Signature}
use Rattle.ocl_environments.specs.Environments.{Environment, is_over}
use Rattle.ocl_environments.specs.Parts.{tree_of}
use Rattle.ocl_types.specs.HasType.{HasType}

abbrev pub query_type : List ℕ × Signature → QueryType
query_type q = record { params = q.1.params; result = q.1.result }

-- the metamodels, the models and the queries of an environment, by their numbers
abbrev pub context_of : Environment → Context
context_of env = record { metas = env.metas; slots = env.models; queries = map query_type env.queries }

abbrev pub variable_typing : List ℕ × Variable → Typing
variable_typing v = record { ty = v.1.ty; model = v.1.model }

-- its variables, by theirs
abbrev pub variables_of : Environment → Variables
variables_of env = map variable_typing env.variables

-- the type of a part, and the model of its objects
abbrev pub typing_of : TypedPart → Typing
typing_of p = record { ty = p.ty; model = p.model }

-- what an expression is has a tree in which each node has its type, and each number names what is there
abbrev pub GivesTypedTree : Environment → Expr → TypedPart → Type 0
GivesTypedTree env e p = HasType env e p → IsTyped (context_of env) (variables_of env) (tree_of p) (typing_of p)

-- a query that is typed, where all queries are in reach: its body is so with the parameters alone as variables, and conforms to the result
pub record IsTypedQuery (env : Environment) (q : Query) : Type 0 where
  pub params : (ty : Ty) → Contains q.params ty → IsWrittenType env.metas ty
  pub result : IsWrittenType env.metas q.result
  pub typing : Typing
  pub body : IsTyped (context_of env) (map without_model q.params) q.body typing
  pub conforms : ConformsTo env.metas typing.ty q.result

-- each of the types is one of the metamodels
abbrev pub AreOver : List MetaDesc → List Ty → Type 0
AreOver metas tys = (ty : Ty) → Contains tys ty → IsTrue (is_over metas ty)
