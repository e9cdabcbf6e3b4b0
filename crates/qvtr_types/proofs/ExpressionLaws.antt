-- Types that are related, models that are one, and properties of a class as items ask for them.
use Rattle.std.proofs.Common.{◌≡◌, List, Bool, true, false, ◌||◌, refl, sym, ap, subst, ◌∙◌, inl, inr, true≢false}
use Rattle.mof_metamodel.specs.declared.desc.MetaDesc.{MetaDesc}
use Rattle.qv_syntax.specs.declared.ty.Ty.{Ty}
use Rattle.qv_syntax.specs.Types.{AreRelated}
use Rattle.ocl_environments.specs.Environments.{Environment, is_over, AreWell}
use Rattle.ocl_environments.specs.Agreement.{fits, are_related}
use Rattle.qv_syntax.specs.declared.expr.Expr.{Expr}
use Rattle.qv_syntax.specs.declared.typed.Typed.{Typed}
use Rattle.qv_syntax.specs.TypedTrees.{IsTyped}
use Rattle.ocl_environments.specs.declared.part.TypedPart.{TypedPart}
use Rattle.ocl_types.specs.HasType.{HasType}
use Rattle.ocl_environments.specs.Parts.{tree_of}
use Rattle.ocl_types.specs.TypedContext.{context_of, variables_of, typing_of}
use Rattle.qvtr_types.specs.Expressions.{HasTyping}
use Rattle.ocl_types.proofs.TopLaws.{fits_where}

module _ (metas : List MetaDesc) (well : AreWell metas) where
  pub unrelated : (a b : Ty) → is_over metas a ≡ true → is_over metas b ≡ true → are_related metas a b ≡ false → ¬ AreRelated metas a b
  unrelated a b over_a over_b is (inl one) = true≢false (sym (ap (λ t. t || fits metas b a) (fits_where metas well a b over_a one)) ∙ is)
  unrelated a b over_a over_b is (inr other) = by (fits metas a b) (fits_where metas well b a over_b other) is
    where
      by : (t : Bool) → fits metas b a ≡ true → (t || fits metas b a) ≡ false → ⊥
      by true there none = true≢false none
      by false there none = true≢false (sym there ∙ none)

-- what typing gives an expression, with its tree
pub typing_had : (env : Environment) (e : Expr) (part : TypedPart) (tree : Typed) → tree ≡ tree_of part → HasType env e part
    → IsTyped (context_of env) (variables_of env) (tree_of part) (typing_of part) → HasTyping env e tree (typing_of part)
typing_had env e part tree is has typed =
    record { part = part; has = has; is = is; typed = subst (λ t. IsTyped (context_of env) (variables_of env) t (typing_of part)) (sym is) typed; gives = refl }
