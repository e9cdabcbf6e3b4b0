use Rattle.std.proofs.Common.{◌≡◌, ℕ, true, false, refl, sym, subst, ◌∙◌}
use Rattle.std.specs.Prelude.{Some, IsTrue}
use Rattle.std.proofs.lemmas.Result.{err_from_is_err_and}
use Rattle.ocl_environments.specs.Environments.{Environment, is_over}
use Rattle.ocl_types.specs.HasType.{HasTree, Stands}
use Rattle.ocl_environments.specs.Parts.{tree_of}
use Rattle.ocl_types.specs.TypedContext.{typing_of}
use Rattle.ocl_types.proofs.QueryLemmas.{err_told}
use Rattle.script_scopes.specs.Conjuncts.{is_null}
use Rattle.qvtr_types.specs.Expressions.{HasTyping, IsGiven, StandsInGiven}
use Rattle.qvtr_types.specs.TemplatePieces.{IsValueOf, HasValue, StandsInValue}
use Rattle.qvtr_types.proofs.ExpressionLaws.{typing_had}
use Rattle.qvtr_types.proofs.items.item_value.Goals as goal

pub returns-in_err-typed-clause-fault : goal.returns-in_err-typed-clause-fault
returns-in_err-typed-clause-fault c =
    let p = err_from_is_err_and c.from_residual.result c.from_residual.ensures.1 in
    err_told c.from_residual.result p.0 _ (StandsInValue c.args.scope.now c.args.of.now c.args.name.now c.args.e.now) (λ f. Stands c.env-env.result.now c.args.e.now f) p.1 p.2
    (λ f h. StandsInValue.typing (subst (λ (env : Environment). Stands env c.args.e.now f) c.env-env.ensures h))
    c.in_err-typed.ensures.fault

pub returns-then-is_null-clause-is : goal.returns-then-is_null-clause-is
returns-then-is_null-clause-is c = HasValue.empty (sym c.is_null.ensures ∙ c.if-is_null.true) refl

pub returns-then-is_null-clause-meant : goal.returns-then-is_null-clause-meant
returns-then-is_null-clause-meant c =
    let part = c.in_ok-typed.typed in
    IsValueOf.empty (tree_of part) (typing_of part) (sym c.is_null.ensures ∙ c.if-is_null.true)
    (subst (λ (env : Environment). HasTyping env c.args.e.now (tree_of part) (typing_of part)) c.env-env.ensures
    (typing_had c.env-env.result.now c.args.e.now part (tree_of part) refl c.in_ok-typed.ensures.typed c.in_ok-typed.ensures.tree))

pub type_given-requires : goal.type_given-requires
type_given-requires c = subst (λ (env : Environment). IsTrue (is_over env.metas c.args.of.now)) (sym c.env-env.ensures) c.requires

pub returns-in_err-value-clause-fault : goal.returns-in_err-value-clause-fault
returns-in_err-value-clause-fault c =
    let p = err_from_is_err_and c.from_residual-in_err-value.result c.from_residual-in_err-value.ensures.1 in
    err_told c.from_residual-in_err-value.result p.0 _ (StandsInValue c.args.scope.now c.args.of.now c.args.name.now c.args.e.now)
    (λ f. StandsInGiven c.env-env.result.now (record { ty = c.args.of.now; model = Some c.model.result }) c.args.name.now c.args.e.now f) p.1 p.2
    (λ f h. StandsInValue.given (sym c.is_null.ensures ∙ c.if-is_null.false)
    (subst (λ (m : ℕ). StandsInGiven c.args.scope.now.env (record { ty = c.args.of.now; model = Some m }) c.args.name.now c.args.e.now f) c.model.ensures
    (subst (λ (env : Environment). StandsInGiven env (record { ty = c.args.of.now; model = Some c.model.result }) c.args.name.now c.args.e.now f) c.env-env.ensures h)))
    c.in_err-value.ensures.fault

pub returns-clause-is : goal.returns-clause-is
returns-clause-is c =
    let has = c.in_ok-value.ensures.is.has in
    HasValue.given c.in_ok-value.value (sym c.is_null.ensures ∙ c.if-is_null.false)
    (subst (λ (env : Environment). HasTree env c.args.e.now c.in_ok-value.value) c.env-env.ensures (has.part, has.has, has.is)) refl

pub returns-clause-meant : goal.returns-clause-meant
returns-clause-meant c =
    IsValueOf.given c.in_ok-value.value (sym c.is_null.ensures ∙ c.if-is_null.false)
    (subst (λ (m : ℕ). IsGiven c.args.scope.now.env (record { ty = c.args.of.now; model = Some m }) c.args.e.now c.in_ok-value.value) c.model.ensures
    (subst (λ (env : Environment). IsGiven env (record { ty = c.args.of.now; model = Some c.model.result }) c.args.e.now c.in_ok-value.value) c.env-env.ensures c.in_ok-value.ensures.is))
