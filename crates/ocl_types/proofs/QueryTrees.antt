-- Queries that are typed are as typed trees ask: their bodies over the queries in reach, with the parameters alone as variables.
use Rattle.std.proofs.Common.{◌≡◌, List, [], ◌∷◌, ◌++◌, None, map, refl, sym, ap, ◌∙◌, subst, ⊎_elim, append_assoc}
use Rattle.std.specs.Prelude.{Contains}
use Rattle.std.proofs.lemmas.List.{append-nil, map-append}
use Rattle.qv_syntax.specs.declared.ty.Ty.{Ty}
use Rattle.qv_syntax.specs.declared.query.Query.{Query}
use Rattle.qv_syntax.specs.declared.query.QueryTree.{QueryTree}
use Rattle.qv_syntax.specs.declared.query.ParamTree.{ParamTree}
use Rattle.qv_syntax.specs.Types.{IsWrittenType, ConformsTo}
use Rattle.qv_syntax.specs.declared.typed.Typed.{Typed}
use Rattle.qv_syntax.specs.TypedTrees.{Context, without_model, IsTyped}
use Rattle.ocl_environments.specs.declared.part.TypedPart.{TypedPart}
use Rattle.ocl_environments.specs.Environments.{Environment, IsInOrder, without_variables}
use Rattle.ocl_environments.specs.Parts.{tree_of}
use Rattle.ocl_types.specs.QueryTyping.{with_param}
use Rattle.ocl_types.specs.Queries.{params_judged, reached_judged, typed_query_judged, bodies_judged, AreQueries}
use Rattle.ocl_types.specs.TypedContext.{context_of, variable_typing, variables_of, typing_of, IsTypedQuery}
use Rattle.ocl_types.proofs.ConformanceLaws.{in_either}
use Rattle.mof_metamodel.proofs.Facts.{nothing_in}
use Rattle.ocl_types.proofs.WrittenLaws.{declared_written}
use Rattle.ocl_types.proofs.TypedParts.{IsReady, IsPart, ready}
use Rattle.ocl_types.proofs.TypedTrees.{tree_part}
use Rattle.ocl_types.proofs.QueriesDecide.{bare, params_ready, reached_ready}

-- what stands of parameters
record AreParams (env : Environment) (r : Environment × List Ty) : Type 0 where
  variables : variables_of r.0 ≡ variables_of env ++ map without_model r.1
  context : context_of r.0 ≡ context_of env
  written : (ty : Ty) → Contains r.1 ty → IsWrittenType env.metas ty

params_are : (env : Environment) (ps : List ParamTree) (r : Environment × List Ty) → (params_judged env ps).has r → AreParams env r
params_are env [] r has = subst (AreParams env) (sym has) (record { variables = sym (append-nil (variables_of env)); context = refl; written = λ ty among. absurd (nothing_in ty among) })
params_are env (p ∷ ps) r has =
    let ty : Ty = has.0 in
    let more : Environment = with_param env p.name.text ty in
    let rest : AreParams more has.2.0 = params_are more ps has.2.0 has.2.1 in
    let own : IsWrittenType env.metas ty = declared_written env p.ty ty has.1.1 in
    subst (AreParams env) (sym has.2.2) (record {
      variables = rest.variables ∙ ap (λ vs. vs ++ map without_model has.2.0.1) (map-append variable_typing env.variables ((p.name.text, record { ty = ty; model = None }) ∷ []))
          ∙ append_assoc (variables_of env) (without_model ty ∷ []) (map without_model has.2.0.1);
      context = rest.context;
      written = λ t among. ⊎_elim (λ (same : ty ≡ t). subst (IsWrittenType env.metas) same own) (λ (there : Contains has.2.0.1 t). rest.written t there) (in_either ty t has.2.0.1 among);
    })

-- no variable is in reach where queries alone are
reached_bare : (env : Environment) → variables_of env ≡ [] → (qs : List QueryTree) (bound : Environment) → (reached_judged env qs).has bound → variables_of bound ≡ []
reached_bare env none [] bound has = ap variables_of has ∙ none
reached_bare env none (q ∷ qs) bound has = reached_bare has.0 (ap variables_of has.1.1.2 ∙ none) qs bound has.2

module _ (env : Environment) (is : IsReady env) (none : variables_of env ≡ []) where
  one_typed : (t : QueryTree) (q : Query) → (typed_query_judged env t).has q → IsTypedQuery env q
  one_typed t q has =
      let result : Ty = has.0.0 in
      let r : Environment × List Ty = has.0.1 in
      let params : AreParams env r = params_are env t.params r has.1.1 in
      let part : TypedPart = has.2.1.0 in
      let typed : IsPart r.0 part = tree_part r.0 (params_ready env is t.params r has.1.1) t.body part has.2.1.1 in
      let inside : IsTyped (context_of env) (map without_model r.1) (tree_of part) (typing_of part) =
      subst (λ (c : Context). IsTyped c (map without_model r.1) (tree_of part) (typing_of part)) params.context
      (subst (λ vs. IsTyped (context_of r.0) vs (tree_of part) (typing_of part)) (params.variables ∙ ap (λ vs. vs ++ map without_model r.1) none) typed.typed) in
      subst (IsTypedQuery env) (sym has.2.2.1) (record {
        params = params.written;
        result = declared_written env t.result result has.1.0;
        typing = typing_of part;
        body = subst (λ e. IsTyped (context_of env) (map without_model r.1) e (typing_of part)) (sym has.2.1.2) inside;
        conforms = subst (λ (e : Typed). ConformsTo env.metas e.ty result) has.2.1.2 has.2.2.0;
      })

  each_typed : (ts : List QueryTree) (all : List Query) → (bodies_judged env ts).has all → (q : Query) → Contains all q → IsTypedQuery env q
  each_typed [] all has q among = absurd (nothing_in q (subst (λ (qs : List Query). Contains qs q) has among))
  each_typed (t ∷ ts) all has q among = ⊎_elim
      (λ (same : has.0.0 ≡ q). subst (IsTypedQuery env) same (one_typed t has.0.0 has.1.0))
      (λ (there : Contains has.0.1 q). each_typed ts has.0.1 has.1.1 q there)
      (in_either has.0.0 q has.0.1 (subst (λ (qs : List Query). Contains qs q) has.2 among))

pub queries_are_typed : (env : Environment) → IsInOrder env → (ts : List QueryTree) (bound : Environment) (all : List Query) → AreQueries env ts bound all → (q : Query) → Contains all q
    → IsTypedQuery bound q
unfolding AreQueries
queries_are_typed env order ts bound all has q among =
    let reach : Environment = has.0 in
    let inner : IsReady reach = reached_ready (without_variables env) (bare env (ready env order)) ts reach has.1 in
    let none : variables_of reach ≡ [] = reached_bare (without_variables env) refl ts reach has.1 in
    let same : (bound, all) ≡ (reach, has.2.0) = has.2.2 in
    subst (λ (e : Environment). IsTypedQuery e q) (sym (ap (λ (p : Environment × List Query). p.0) same))
    (each_typed reach inner none ts has.2.0 has.2.1 q (subst (λ (qs : List Query). Contains qs q) (ap (λ (p : Environment × List Query). p.1) same) among))
