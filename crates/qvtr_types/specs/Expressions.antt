-- Expressions where a relation has them (QVT 1.3, section 7.11.1.4, and OCL 2.4): conditions, values of items and arguments of calls, with
-- what may be named there; and the faults that stand in them.
use Rattle.std.specs.Prelude.{◌≡◌, ◌≢◌, ℕ, List, Some, IsTrue, All, length, slice_get}
use Rattle.mof_metamodel.specs.declared.desc.MetaDesc.{MetaDesc}
use Rattle.qv_syntax.specs.declared.expr.Expr.{Expr}
use Rattle.qv_syntax.specs.declared.typed.Typed.{Typed}
use Rattle.qv_syntax.specs.declared.ty.Ty.TheVariants as types
use Rattle.qv_syntax.specs.declared.program.Var.{Var}
use Rattle.qv_syntax.specs.Types.{AreRelated}
use Rattle.qv_syntax.specs.TypeRules.{AreComparable}
use Rattle.qv_syntax.specs.TypedTrees.{Typing, IsTyped}
use Rattle.qv_syntax.specs.ProgramTypes.{typing_of, Fits}
use Rattle.ocl_environments.specs.declared.fault.TypeFault.{TypeFault}
use Rattle.ocl_environments.specs.declared.fault.TypeFault.TheVariants.{WrongCount, ModelMix}
use Rattle.ocl_environments.specs.declared.part.TypedPart.{TypedPart}
use Rattle.ocl_environments.specs.declared.variable.Variable.{Variable}
use Rattle.ocl_environments.specs.Environments.{Environment, is_over}
use Rattle.ocl_types.specs.HasType.{HasType, Stands}
use Rattle.ocl_types.specs.TypeRules.{IsFirstNamed}
use Rattle.ocl_environments.specs.Outcomes.{wrong_type}
use Rattle.ocl_environments.specs.Parts.{tree_of}
use Rattle.ocl_types.specs.TypedContext.{context_of, variables_of}
use Rattle.ocl_types.specs.TypedContext as context

-- ---- an expression

-- the expression has this tree and this type, with the model of its objects; each node of the tree has its type
pub record HasTyping (env : Environment) (e : Expr) (tree : Typed) (typing : Typing) : Type 0 where
  pub part : TypedPart
  pub has : HasType env e part
  pub is : tree ≡ tree_of part
  pub typed : IsTyped (context_of env) (variables_of env) tree typing
  pub gives : typing ≡ context.typing_of part

-- ---- conditions

-- a conjunct that is no call is a Boolean
pub record IsCondition (env : Environment) (e : Expr) (tree : Typed) : Type 0 where
  pub typing : Typing
  pub has : HasTyping env e tree typing
  pub boolean : typing.ty ≡ types.Bool

pub data StandsInCondition (env : Environment) (e : Expr) (fault : TypeFault) : Type 0 where
  typing : Stands env e fault → StandsInCondition env e fault
  type : (tree : Typed) (t : Typing) → HasTyping env e tree t → t.ty ≢ types.Bool → fault ≡ wrong_type env.metas types.Bool t.ty → StandsInCondition env e fault

-- the expression of a conjunct `v = e`: the first variable of this name may be compared with it
pub record IsEquated (env : Environment) (v : List ℕ) (e : Expr) (tree : Typed) : Type 0 where
  pub typing : Typing
  pub has : HasTyping env e tree typing
  pub number : ℕ
  pub variable : Variable
  pub named : IsFirstNamed Variable env.variables v (number, variable)
  pub compared : AreComparable env.metas variable.ty typing.ty

-- ---- what is given where a type and a model are asked for

-- it has the type that is asked for, or a related class, and no other model
pub record IsGiven (env : Environment) (wanted : Typing) (e : Expr) (tree : Typed) : Type 0 where
  pub typing : Typing
  pub has : HasTyping env e tree typing
  pub fits : Fits env.metas wanted typing

-- the place has a name
pub data StandsInGiven (env : Environment) (wanted : Typing) (name : List ℕ) (e : Expr) (fault : TypeFault) : Type 0 where
  typing : Stands env e fault → StandsInGiven env wanted name e fault
  type : (tree : Typed) (t : Typing) → HasTyping env e tree t → ¬ AreRelated env.metas t.ty wanted.ty → fault ≡ wrong_type env.metas wanted.ty t.ty
      → StandsInGiven env wanted name e fault
  model : (tree : Typed) (t : Typing) (m : ℕ) → HasTyping env e tree t → t.model ≡ Some m → wanted.model ≢ Some m → fault ≡ ModelMix name
      → StandsInGiven env wanted name e fault

-- ---- arguments

-- the types of the variables are of the metamodels
abbrev pub HaveTypes : List MetaDesc → List Var → Type 0
HaveTypes metas vars = All (λ v. IsTrue (is_over metas v.ty)) vars

-- an argument for each root of the called relation, each of its type and model
pub record AreArguments (env : Environment) (roots : List Var) (args : List Expr) (trees : List Typed) : Type 0 where
  pub asked : length args ≡ length roots
  pub given : length trees ≡ length args
  pub each : (place : ℕ) (root : Var) (e : Expr) (tree : Typed) → slice_get roots place ≡ Some root → slice_get args place ≡ Some e → slice_get trees place ≡ Some tree
      → IsGiven env (typing_of root) e tree

pub data StandsInArguments (env : Environment) (called : List ℕ) (roots : List Var) (args : List Expr) (fault : TypeFault) : Type 0 where
  count : length args ≢ length roots → fault ≡ WrongCount called → StandsInArguments env called roots args fault
  argument : (place : ℕ) (root : Var) (e : Expr) → slice_get roots place ≡ Some root → slice_get args place ≡ Some e → StandsInGiven env (typing_of root) called e fault
      → StandsInArguments env called roots args fault
