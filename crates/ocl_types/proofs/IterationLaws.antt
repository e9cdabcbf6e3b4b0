-- The type of an iterator's variable depends on the metamodels of an environment alone.
use Rattle.std.proofs.Common.{◌≡◌, Option, None, Some, Result, Ok, refl, ap, subst, ◌∙◌}
use Rattle.qv_syntax.specs.declared.ty.Ty.{Ty}
use Rattle.qv_syntax.specs.declared.type_tree.TypeTree.{TypeTree}
use Rattle.ocl_environments.specs.declared.fault.TypeError.{TypeError}
use Rattle.ocl_environments.specs.Environments.{Environment}
use Rattle.ocl_environments.specs.Outcomes.{and_then, asking, wrong_type}
use Rattle.ocl_environments.specs.Agreement.{fits}
use Rattle.ocl_environments.specs.Scopes.{Reach, in_reach}
use Rattle.ocl_types.specs.TypingCollections.{variable_type}
use Rattle.mof_metamodel.specs.Giving.{Gives}
use Rattle.ocl_environments.specs.Written.{fault_in}
use Rattle.ocl_types.proofs.ReachLaws.{declared_reach}

variable_reach : (scope : Reach) (tree : Option TypeTree) (of : Ty) → variable_type scope.outer tree of ≡ variable_type (in_reach scope) tree of
variable_reach scope None of = refl
variable_reach scope (Some tree) of =
    ap (λ o. and_then o (λ ty. asking (fits scope.outer.metas of ty) (wrong_type scope.outer.metas ty of) (Ok ty))) (declared_reach scope tree)

pub variable_given : (r : Result Ty TypeError) (env : Environment) (scope : Reach) (tree : Option TypeTree) (of : Ty) → env ≡ scope.outer
    → Gives fault_in (λ x. x) r (variable_type env tree of) → Gives fault_in (λ x. x) r (variable_type (in_reach scope) tree of)
variable_given r env scope tree of is given = subst (Gives fault_in (λ x. x) r) (ap (λ e. variable_type e tree of) is ∙ variable_reach scope tree of) given
