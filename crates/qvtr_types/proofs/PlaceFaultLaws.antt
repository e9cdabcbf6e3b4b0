-- An expression that has its place has no fault there: a condition, a value that is given, arguments of a call.
use Rattle.std.proofs.Common.{◌≡◌, ℕ, List, sym, ap, subst, ◌∙◌, ⊎_elim, arith}
use Rattle.std.specs.Prelude.{Some, Ok, Err}
use Rattle.std.proofs.lemmas.Option.{none-some, slice_get_within, slice_get_cases}
use Rattle.qv_syntax.specs.declared.expr.Expr.{Expr}
use Rattle.qv_syntax.specs.declared.typed.Typed.{Typed}
use Rattle.qv_syntax.specs.declared.program.Var.{Var}
use Rattle.qv_syntax.specs.Types.{AreRelated}
use Rattle.qv_syntax.specs.TypedTrees.{Typing}
use Rattle.qv_syntax.specs.ProgramTypes.{typing_of}
use Rattle.ocl_environments.specs.declared.fault.TypeFault.{TypeFault}
use Rattle.ocl_environments.specs.declared.part.TypedPart.{TypedPart}
use Rattle.ocl_environments.specs.Environments.{Environment}
use Rattle.ocl_types.specs.HasType.{HasType, HasTree, Stands}
use Rattle.ocl_types.specs.TypedContext as context
use Rattle.ocl_types.specs.Typing.{typed}
use Rattle.ocl_types.proofs.JudgedLaws.{ok_err}
use Rattle.qvtr_types.specs.Expressions.{HasTyping, IsCondition, StandsInCondition, IsGiven, StandsInGiven, AreArguments, StandsInArguments}

module _ (env : Environment) (one : (e : Expr) (p q : TypedPart) → HasType env e p → HasType env e q → p ≡ q) (only : (e : Expr) (t : Typed) → HasTree env e t → typed env e ≡ Ok t)
    (known : (e : Expr) (f : TypeFault) → Stands env e f → (g : TypeFault) × (typed env e ≡ Err g)) where
  -- what has a type has no fault
  none_stands : (e : Expr) (tree : Typed) (t : Typing) → HasTyping env e tree t → (f : TypeFault) → Stands env e f → ⊥
  none_stands e tree t has f stands = let (g, err) = known e f stands in ok_err (typed env e) tree g (only e tree (has.part, has.has, has.is)) err

  one_typing : (e : Expr) (tree other : Typed) (t u : Typing) → HasTyping env e tree t → HasTyping env e other u → t ≡ u
  one_typing e tree other t u a b = a.gives ∙ ap context.typing_of (one e a.part b.part a.has b.has) ∙ sym b.gives

  pub condition_faultless : (e : Expr) (tree : Typed) → IsCondition env e tree → (f : TypeFault) → StandsInCondition env e f → ⊥
  condition_faultless e tree is f (StandsInCondition.typing stands) = none_stands e tree is.typing is.has f stands
  condition_faultless e tree is f (StandsInCondition.type other t has apart same) = apart (ap (λ (u : Typing). u.ty) (one_typing e other tree t is.typing has is.has) ∙ is.boolean)

  pub given_faultless : (wanted : Typing) (name : List ℕ) (e : Expr) (tree : Typed) → IsGiven env wanted e tree → (f : TypeFault) → StandsInGiven env wanted name e f → ⊥
  given_faultless wanted name e tree is f (StandsInGiven.typing stands) = none_stands e tree is.typing is.has f stands
  given_faultless wanted name e tree is f (StandsInGiven.type other t has apart same) =
      apart (subst (λ (u : Typing). AreRelated env.metas u.ty wanted.ty) (one_typing e tree other is.typing t is.has has) is.fits.related)
  given_faultless wanted name e tree is f (StandsInGiven.model other t m has at apart same) =
      let here : is.typing.model ≡ Some m = ap (λ (u : Typing). u.model) (one_typing e tree other is.typing t is.has has) ∙ at in
      ⊎_elim (λ none. none-some m (sym none ∙ here)) (λ one. apart (sym one ∙ here)) is.fits.model

  pub arguments_faultless : (called : List ℕ) (roots : List Var) (args : List Expr) (trees : List Typed) → AreArguments env roots args trees → (f : TypeFault)
      → StandsInArguments env called roots args f → ⊥
  arguments_faultless called roots args trees are f (StandsInArguments.count apart same) = apart are.asked
  arguments_faultless called roots args trees are f (StandsInArguments.argument place root e at_root at_arg stands) = ⊎_elim
      (λ there. given_faultless (typing_of root) called e there.0 (are.each place root e there.0 at_root at_arg there.2) f stands)
      (λ past. let within = slice_get_within args place e at_arg in let given = are.given in let out = past.0 in omega (arith, within, given, out))
      (slice_get_cases trees place).1
