-- Expressions of a relation: the type that typing gives one is the one that it has, and where it has one no fault stands in it.
use Rattle.std.proofs.Common.{◌≡◌, List, refl, ap, sym, subst, ◌∙◌}
use Rattle.std.specs.Prelude.{Ok, Err}
use Rattle.qv_syntax.specs.declared.expr.Expr.{Expr}
use Rattle.qv_syntax.specs.declared.program.Var.{Var}
use Rattle.qv_syntax.specs.declared.script.RelationTree.{RelationTree}
use Rattle.qv_syntax.specs.declared.typed.Typed.{Typed}
use Rattle.qv_syntax.specs.TypedTrees.{Typing}
use Rattle.ocl_environments.specs.declared.fault.TypeFault.{TypeFault}
use Rattle.ocl_environments.specs.declared.part.TypedPart.{TypedPart}
use Rattle.ocl_environments.specs.Environments.{Environment}
use Rattle.ocl_types.specs.HasType.{HasType, HasTree, Stands}
use Rattle.ocl_environments.specs.Parts.{tree_of}
use Rattle.ocl_types.specs.Typing.{typed}
use Rattle.ocl_types.specs.TypedContext.{GivesTypedTree, typing_of}
use Rattle.ocl_types.proofs.JudgedLaws.{ok_err}
use Rattle.script_scopes.specs.Environments.{Setting, in_relation}
use Rattle.qvtr_types.specs.Expressions.{HasTyping}
use Rattle.script_scopes.specs.Faults.{IsExpression}
use Rattle.qvtr_types.proofs.ExpressionLaws.{typing_had}

module _ (s : Setting) (r : RelationTree) (vars : List Var) where
  abbrev env : Environment
  env = in_relation s r vars

  pub typing_expression : (e : Expr) (tree : Typed) (t : Typing) → HasTyping env e tree t → IsExpression s r vars e t
  typing_expression e tree t h = record { part = h.part; has = h.has; is = h.gives }

  pub expression_typing : ((e : Expr) (p : TypedPart) → GivesTypedTree env e p) → (e : Expr) (t : Typing) → IsExpression s r vars e t → (tree : Typed) × HasTyping env e tree t
  expression_typing trees e t h = (tree_of h.part, subst (HasTyping env e (tree_of h.part)) (sym h.is) (typing_had env e h.part (tree_of h.part) refl h.has (trees e h.part h.has)))

  -- an expression has one
  pub same_typing : ((e : Expr) (p q : TypedPart) → HasType env e p → HasType env e q → p ≡ q) → (e : Expr) (tree : Typed) (t given : Typing) → HasTyping env e tree t → IsExpression s r vars e given → given ≡ t
  same_typing one e tree t given h g = g.is ∙ ap typing_of (one e g.part h.part g.has h.has) ∙ sym h.gives

-- what has a type has no fault
pub none_stands : (env : Environment) → ((e : Expr) (t : Typed) → HasTree env e t → typed env e ≡ Ok t) → ((e : Expr) (f : TypeFault) → Stands env e f → (g : TypeFault) × (typed env e ≡ Err g))
    → (e : Expr) (tree : Typed) (t : Typing) (f : TypeFault) → HasTyping env e tree t → ¬ Stands env e f
none_stands env only known e tree t f h stands =
    let (g, fails) = known e f stands in
    ok_err (typed env e) tree g (only e tree (h.part, h.has, h.is)) fails
