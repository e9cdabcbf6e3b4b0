-- What stands in the expression of a conjunct `v = e` stands in the conjunct; and where the conjunct has a type, the variable of this name may be compared
-- with the expression.
use Rattle.std.proofs.Common.{◌≡◌, ℕ, List, [], ◌∷◌, sym, subst, inl, inr}
use Rattle.std.specs.Prelude.{Some}
use Rattle.mof_metamodel.specs.declared.span.Span.{Span}
use Rattle.qv_syntax.specs.declared.expr.Expr.{Expr, roll-Expr}
use Rattle.qv_syntax.specs.declared.expr.Infix.{Infix}
use Rattle.qv_syntax.specs.declared.expr.Args.TheOpen as of
use Rattle.qv_syntax.specs.declared.typed.Typed.{Typed}
use Rattle.qv_syntax.specs.TypeRules.{AreComparable}
use Rattle.ocl_environments.specs.declared.fault.TypeFault.{TypeFault}
use Rattle.ocl_environments.specs.declared.part.TypedPart.{TypedPart}
use Rattle.ocl_environments.specs.Environments.{Environment}
use Rattle.ocl_types.specs.TypedContext.{typing_of}
use Rattle.ocl_types.specs.HasType.{Judgment, LinkJudgment, linked, link_judgment, HasType, Stands}
use Rattle.ocl_types.proofs.JudgmentLaws.{expr_unrolled, link_unrolled}
use Rattle.script_scopes.specs.Conjuncts.{equation_of}
use Rattle.qvtr_types.specs.Expressions.{HasTyping, IsEquated}
use Rattle.qvtr_types.proofs.well_formed.Equations.{equation_form, equation_told}

-- ---- faults

module _ (env : Environment) (f : TypeFault) where
  behind_stands : (l : Infix) → Stands env l.right f → ((link_judgment l).right env).stands f
  unfolding Stands
  behind_stands l stands = subst (λ (j : LinkJudgment). (j.right env).stands f) (sym (link_unrolled (record { operator = l.operator; right = l.right }))) stands

  chain_stands : (first : Expr) (l : Infix) (span : Span) → Stands env l.right f → Stands env (roll-Expr (of.Chain first (l ∷ []) span)) f
  unfolding Stands linked
  chain_stands first l span stands =
      subst (λ (j : Judgment). (j.part env).stands f) (sym (expr_unrolled (of.Chain first (l ∷ []) span))) (inl (inl (inr (behind_stands l stands))))

  pub equation_stands : (conjunct : Expr) (v : List ℕ) (e : Expr) → equation_of conjunct ≡ Some (v, e) → Stands env e f → Stands env conjunct f
  equation_stands conjunct v e is stands =
      let form = equation_form conjunct v e is in
      subst (λ (c : Expr). Stands env c f) form.is (chain_stands form.first form.link form.span (subst (λ (x : Expr). Stands env x f) (sym form.right) stands))

-- ---- types

-- the tree of the expression, where typing gives it and the conjunct has a type
pub equated : (env : Environment) (conjunct : Expr) (v : List ℕ) (e : Expr) (p : TypedPart) (part : TypedPart) (tree : Typed) → ((q r : TypedPart) → HasType env e q → HasType env e r → q ≡ r)
    → equation_of conjunct ≡ Some (v, e) → HasType env conjunct p → HasTyping env e tree (typing_of part) → HasType env e part → IsEquated env v e tree
equated env conjunct v e p part tree one is has typing given =
    let told = equation_told env conjunct v e is p has in
    record {
      typing = typing_of part;
      has = typing;
      number = told.number;
      variable = told.variable;
      named = told.named;
      compared = subst (λ (q : TypedPart). AreComparable env.metas told.variable.ty q.ty) (one told.right part told.has given) told.compared;
    }
