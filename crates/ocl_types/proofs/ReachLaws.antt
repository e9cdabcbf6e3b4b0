-- What depends on the metamodels of an environment alone is the same within an expression.
use Rattle.std.proofs.Common.{◌≡◌, ℕ, List, refl, ap, subst, sym, ◌∙◌, Result, Ok}
use Rattle.qv_syntax.specs.declared.ty.Ty.{Ty}
use Rattle.qv_syntax.specs.declared.type_tree.TypeTree.{TypeTree, fold-TypeTree}
use Rattle.qv_syntax.specs.declared.type_tree.TypeTree.TheOpen as of
use Rattle.ocl_environments.specs.declared.fault.TypeError.{TypeError}
use Rattle.ocl_environments.specs.declared.fault.TypeFault.{TypeFault}
use Rattle.ocl_environments.specs.Environments.{Environment}
use Rattle.ocl_environments.specs.Outcomes.{and_then}
use Rattle.ocl_environments.specs.Scopes.{Reach, in_reach}
use Rattle.ocl_types.specs.TypingScopes.{flat, declared_type, let_type}
use Rattle.ocl_environments.specs.Lets.{free_name}
use Rattle.mof_metamodel.specs.Giving.{Gives}
use Rattle.ocl_environments.specs.Written.{fault_in, written, written_step}

written_layer : (scope : Reach) (layer : of.TypeTree-F (Result Ty TypeFault)) → written_step scope.outer layer ≡ written_step (in_reach scope) layer
written_layer scope (of.Str span) = refl
written_layer scope (of.Int span) = refl
written_layer scope (of.Bool span) = refl
written_layer scope (of.Named path) = refl
written_layer scope (of.Coll kind inner span) = refl

pub written_reach : (scope : Reach) (tree : TypeTree) → written scope.outer tree ≡ written (in_reach scope) tree
written_reach scope tree = λ i. fold-TypeTree (Result Ty TypeFault) (λ layer. written_layer scope layer i) tree

pub declared_reach : (scope : Reach) (tree : TypeTree) → declared_type scope.outer tree ≡ declared_type (in_reach scope) tree
declared_reach scope tree = ap (λ o. and_then o (flat scope.outer.metas)) (written_reach scope tree)

-- what is declared after a free name
pub let_given : (r : Result Ty TypeError) (env : Environment) (scope : Reach) (name : List ℕ) (tree : TypeTree) → env ≡ scope.outer
    → free_name (in_reach scope) name ≡ Ok tt → Gives fault_in (λ x. x) r (declared_type env tree) → Gives fault_in (λ x. x) r (let_type (in_reach scope) name tree)
let_given r env scope name tree is free given =
    subst (Gives fault_in (λ x. x) r) (ap (λ e. declared_type e tree) is ∙ declared_reach scope tree ∙ ap (λ o. and_then o (λ u. declared_type (in_reach scope) tree)) (sym free)) given
