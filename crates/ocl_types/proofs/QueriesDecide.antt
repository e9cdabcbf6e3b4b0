-- Typing queries one after the other decides what queries are, typed, and fails exactly where a fault stands in them.
use Rattle.std.proofs.Common.{◌≡◌, ℕ, true, List, [], ◌∷◌, ◌++◌, None, Some, Ok, Err, map, refl, sym, ap, ◌∙◌, subst, inl, inr, append_assoc}
use Rattle.std.specs.Prelude.{slice_get}
use Rattle.std.proofs.lemmas.List.{append-nil, map-append}
use Rattle.std.proofs.lemmas.Option.{none-some}
use Rattle.qv_syntax.specs.declared.ty.Ty.{Ty}
use Rattle.qv_syntax.specs.declared.expr.Expr.{Expr}
use Rattle.qv_syntax.specs.declared.typed.Typed.{Typed}
use Rattle.qv_syntax.specs.declared.query.Query.{Query}
use Rattle.qv_syntax.specs.declared.query.QueryTree.{QueryTree}
use Rattle.qv_syntax.specs.declared.query.ParamTree.{ParamTree}
use Rattle.qv_syntax.specs.TypedTrees.{QueryType}
use Rattle.ocl_environments.specs.declared.fault.TypeFault.{TypeFault}
use Rattle.ocl_environments.specs.declared.fault.TypeFault.TheVariants.{DuplicateName}
use Rattle.ocl_environments.specs.declared.variable.Signature.{Signature}
use Rattle.ocl_environments.specs.Environments.{Environment, IsInOrder, is_over, is_query_bound, with_query, without_variables}
use Rattle.ocl_environments.specs.Outcomes.{RuleResult, and_then}
use Rattle.ocl_environments.specs.Parts.{tree_of}
use Rattle.ocl_types.specs.TypingScopes.{let_type, declared_type}
use Rattle.ocl_types.specs.Typing.{part_of, typed}
use Rattle.ocl_types.specs.QueryTyping.{with_param, params_from, signature_of, query_bound, queries_bound, body_typed, query_typed, queries_from, queries_typed}
use Rattle.ocl_types.specs.Judged.{gives, both}
use Rattle.ocl_types.specs.TypeRules.{declared_judged, let_judged}
use Rattle.ocl_types.specs.HasType.{judgment}
use Rattle.ocl_types.specs.Queries.{params_judged, signature_judged, reach_judged, reached_judged, tree_judged, body_judged, typed_query_judged, bodies_judged, queries_judged, AreQueries, StandInQueries}
use Rattle.ocl_types.specs.TypedContext.{query_type}
use Rattle.ocl_types.proofs.JudgedLaws.{Decides, gives_decides, asks_decides, taking_decides, both_decides, two_decide, pair, regrouped}
use Rattle.ocl_types.proofs.LayerLaws.{none_kept}
use Rattle.ocl_types.proofs.ConformanceLaws.{one_more}
use Rattle.ocl_types.proofs.WrittenLaws.{declared_written, declared_decides}
use Rattle.ocl_types.proofs.RangeLaws.{written_over}
use Rattle.ocl_types.proofs.RuleLaws.{free_is, let_decides, conforming_decides}
use Rattle.ocl_types.proofs.TypedParts.{IsReady, ready, ready_with}
use Rattle.ocl_types.proofs.TypedTrees.{tree_over}
use Rattle.ocl_types.proofs.TypingDecides.{decided, then_same, moved}

-- ---- what stands in an environment with more in reach

pub bare : (env : Environment) → IsReady env → IsReady (without_variables env)
bare env is = record { well = is.well; over = λ v n at. absurd (none-some v at); results = is.results; kept = λ v n at. absurd (none-some v at) }

pub params_ready : (env : Environment) → IsReady env → (ps : List ParamTree) (r : Environment × List Ty) → (params_judged env ps).has r → IsReady r.0
params_ready env is [] r has = subst (λ (q : Environment × List Ty). IsReady q.0) (sym has) is
params_ready env is (p ∷ ps) r has =
    let ty : Ty = has.0 in
    let more : IsReady (with_param env p.name.text ty) = ready_with env p.name.text (record { ty = ty; model = None }) is (none_kept ty) (written_over env.metas ty (declared_written env p.ty ty has.1.1)) in
    subst (λ (q : Environment × List Ty). IsReady q.0) (sym has.2.2) (params_ready (with_param env p.name.text ty) more ps has.2.0 has.2.1)

params_metas : (env : Environment) (ps : List ParamTree) (r : Environment × List Ty) → (params_judged env ps).has r → r.0.metas ≡ env.metas
params_metas env [] r has = ap (λ (q : Environment × List Ty). q.0.metas) has
params_metas env (p ∷ ps) r has = ap (λ (q : Environment × List Ty). q.0.metas) has.2.2 ∙ params_metas (with_param env p.name.text has.0) ps has.2.0 has.2.1

query_ready : (env : Environment) (name : List ℕ) (s : Signature) → IsReady env → is_over env.metas s.result ≡ true → IsReady (with_query env name s)
query_ready env name s is over = record {
  well = is.well;
  over = is.over;
  results = λ q n at.
      let grown : slice_get (map query_type env.queries ++ query_type (name, s) ∷ []) n ≡ Some q =
      subst (λ qs. slice_get qs n ≡ Some q) (map-append query_type env.queries ((name, s) ∷ [])) at in
      elim (one_more (map query_type env.queries) (query_type (name, s)) n q grown) [
        | inl before ↦ is.results q n before
        | inr same ↦ subst (λ (t : QueryType). is_over env.metas t.result ≡ true) same over
      ];
  kept = is.kept;
}

pub reached_ready : (env : Environment) → IsReady env → (qs : List QueryTree) (bound : Environment) → (reached_judged env qs).has bound → IsReady bound
reached_ready env is [] bound has = subst IsReady (sym has) is
reached_ready env is (q ∷ qs) bound has =
    let s : Signature = has.1.1.0 in
    let result : is_over env.metas s.result ≡ true =
    subst (λ (t : Signature). is_over env.metas t.result ≡ true) (sym has.1.1.1.2) (written_over env.metas has.1.1.1.0.0 (declared_written env q.result has.1.1.1.0.0 has.1.1.1.1.0)) in
    let one : IsReady has.0 = subst IsReady (sym has.1.1.2) (query_ready env q.name.text s is result) in
    reached_ready has.0 one qs bound has.2

-- ---- parameters

params_of : Environment → List ParamTree → RuleResult (Environment × List Ty)
params_of env [] = Ok (env, [])
params_of env (p ∷ ps) = and_then (let_type env p.name.text p.ty) (λ ty. and_then (params_of (with_param env p.name.text ty) ps) (λ r. Ok (r.0, ty ∷ r.1)))

abbrev behind_types : List Ty → RuleResult (Environment × List Ty) → RuleResult (Environment × List Ty)
behind_types acc r = and_then r (λ q. Ok (q.0, acc ++ q.1))

one_type_more : (acc : List Ty) (ty : Ty) (r : RuleResult (Environment × List Ty)) → behind_types (acc ++ ty ∷ []) r ≡ behind_types acc (and_then r (λ q. Ok (q.0, ty ∷ q.1)))
one_type_more acc ty (Ok q) = ap (λ ts. Ok (q.0, ts)) (append_assoc acc (ty ∷ []) q.1)
one_type_more acc ty (Err f) = refl

params_are : (env : Environment) (acc : List Ty) (ps : List ParamTree) → params_from env acc ps ≡ behind_types acc (params_of env ps)
unfolding params_from params_of
params_are env acc [] = ap (λ ts. Ok (env, ts)) (sym (append-nil acc))
params_are env acc (p ∷ ps) =
    then_same (let_type env p.name.text p.ty) _ _
    (λ ty. params_are (with_param env p.name.text ty) (acc ++ ty ∷ []) ps ∙ one_type_more acc ty (params_of (with_param env p.name.text ty) ps))
    ∙ sym (regrouped (let_type env p.name.text p.ty) (λ ty. and_then (params_of (with_param env p.name.text ty) ps) (λ r. Ok (r.0, ty ∷ r.1))) (λ q. Ok (q.0, acc ++ q.1)))

nothing_before : (r : RuleResult (Environment × List Ty)) → behind_types [] r ≡ r
nothing_before (Ok q) = refl
nothing_before (Err f) = refl

params_of_decide : (env : Environment) (ps : List ParamTree) → Decides (params_of env ps) (params_judged env ps)
unfolding params_of
params_of_decide env [] = gives_decides (env, [])
params_of_decide env (p ∷ ps) =
    taking_decides (let_type env p.name.text p.ty) _ (let_judged env p.name.text p.ty) _ (let_decides env p.name.text p.ty)
    (λ ty h. taking_decides (params_of (with_param env p.name.text ty) ps) (λ r. Ok (r.0, ty ∷ r.1)) (params_judged (with_param env p.name.text ty) ps) (λ r. gives (r.0, ty ∷ r.1))
    (params_of_decide (with_param env p.name.text ty) ps) (λ r k. gives_decides (r.0, ty ∷ r.1)))

params_decide : (env : Environment) (ps : List ParamTree) → Decides (params_from env [] ps) (params_judged env ps)
params_decide env ps = subst (λ q. Decides q (params_judged env ps)) (sym (params_are env [] ps ∙ nothing_before (params_of env ps))) (params_of_decide env ps)

-- ---- what queries say of their types

signature_decides : (env : Environment) (q : QueryTree) → Decides (signature_of env q) (signature_judged env q)
signature_decides env q =
    two_decide (declared_type env q.result) (params_from env [] q.params) _ (declared_judged env q.result) (params_judged env q.params) _
    (declared_decides env q.result) (params_decide env q.params) (λ result p h k. gives_decides (record { params = p.1; result = result }))

reach_decides : (env : Environment) (q : QueryTree) → Decides (query_bound env q) (reach_judged env q)
reach_decides env q =
    asks_decides _ _ (DuplicateName q.name.text) _ _ (free_is (is_query_bound env q.name.text))
    (taking_decides (signature_of env q) _ (signature_judged env q) _ (signature_decides env q) (λ s h. gives_decides (with_query env q.name.text s)))

reached_decides : (env : Environment) (qs : List QueryTree) → Decides (queries_bound env qs) (reached_judged env qs)
unfolding queries_bound
reached_decides env [] = gives_decides env
reached_decides env (q ∷ qs) = taking_decides (query_bound env q) (λ bound. queries_bound bound qs) (reach_judged env q) (λ bound. reached_judged bound qs) (reach_decides env q) (λ bound h. reached_decides bound qs)

-- ---- bodies

tree_decides : (env : Environment) → IsReady env → (e : Expr) → Decides (typed env e) (tree_judged env e)
unfolding typed
tree_decides env is e = taking_decides (part_of env e) (λ p. Ok (tree_of p)) ((judgment e).part env) (λ p. gives (tree_of p)) (decided env is e) (λ p h. gives_decides (tree_of p))

body_decides : (env : Environment) (is : IsReady env) (result : Ty) (p : Environment × List Ty) (q : QueryTree) → (params_judged env q.params).has p
    → Decides (body_typed env result p q) (body_judged env result p q)
body_decides env is result p q has =
    let inner : IsReady p.0 = params_ready env is q.params p has in
    taking_decides (typed p.0 q.body) _ (tree_judged p.0 q.body) _ (tree_decides p.0 inner q.body)
    (λ (body : Typed) h.
    let over : is_over p.0.metas body.ty ≡ true = subst (λ (t : Typed). is_over p.0.metas t.ty ≡ true) (sym h.2) (tree_over p.0 inner q.body h.0 h.1) in
    conforming_decides env.metas is.well result body.ty _ _ (subst (λ ms. is_over ms body.ty ≡ true) (params_metas env q.params p has) over) (gives_decides _))

typed_query_decides : (env : Environment) (is : IsReady env) (q : QueryTree) → Decides (query_typed env q) (typed_query_judged env q)
typed_query_decides env is q =
    two_decide (declared_type env q.result) (params_from env [] q.params) (λ result p. body_typed env result p q) (declared_judged env q.result) (params_judged env q.params) (λ s. body_judged env s.0 s.1 q)
    (declared_decides env q.result) (params_decide env q.params) (λ result p h k. body_decides env is result p q k)

queries_of : Environment → List QueryTree → RuleResult (List Query)
queries_of env [] = Ok []
queries_of env (q ∷ qs) = and_then (pair (query_typed env q) (queries_of env qs)) (λ p. Ok (p.0 ∷ p.1))

queries_are : (env : Environment) (acc : List Query) (qs : List QueryTree) → queries_from env acc qs ≡ and_then (queries_of env qs) (λ all. Ok (acc ++ all))
unfolding queries_from queries_of
queries_are env acc [] = ap (λ all. Ok all) (sym (append-nil acc))
queries_are env acc (q ∷ qs) = then_same (query_typed env q) _ _ (λ query. queries_are env (acc ++ query ∷ []) qs) ∙ moved acc (query_typed env q) (queries_of env qs)

none_before : (r : RuleResult (List Query)) → and_then r (λ all. Ok ([] ++ all)) ≡ r
none_before (Ok all) = refl
none_before (Err f) = refl

queries_of_decide : (env : Environment) → IsReady env → (qs : List QueryTree) → Decides (queries_of env qs) (bodies_judged env qs)
unfolding queries_of
queries_of_decide env is [] = gives_decides []
queries_of_decide env is (q ∷ qs) =
    taking_decides (pair (query_typed env q) (queries_of env qs)) (λ p. Ok (p.0 ∷ p.1)) (both (typed_query_judged env q) (bodies_judged env qs)) (λ p. gives (p.0 ∷ p.1))
    (both_decides (query_typed env q) (queries_of env qs) (typed_query_judged env q) (bodies_judged env qs) (typed_query_decides env is q) (queries_of_decide env is qs)) (λ p h. gives_decides (p.0 ∷ p.1))

bodies_decide : (env : Environment) → IsReady env → (qs : List QueryTree) → Decides (queries_from env [] qs) (bodies_judged env qs)
bodies_decide env is qs = subst (λ q. Decides q (bodies_judged env qs)) (sym (queries_are env [] qs ∙ none_before (queries_of env qs))) (queries_of_decide env is qs)

-- ---- all queries

module _ (env : Environment) (order : IsInOrder env) (qs : List QueryTree) where
  bound_ready : (bound : Environment) → (reached_judged (without_variables env) qs).has bound → IsReady bound
  bound_ready bound has = reached_ready (without_variables env) (bare env (ready env order)) qs bound has

  pub queries_decide : Decides (queries_typed env qs) (queries_judged env qs)
  unfolding queries_typed
  queries_decide =
      taking_decides (queries_bound (without_variables env) qs) _ (reached_judged (without_variables env) qs) _ (reached_decides (without_variables env) qs)
      (λ bound h. taking_decides (queries_from bound [] qs) (λ all. Ok (bound, all)) (bodies_judged bound qs) (λ all. gives (bound, all)) (bodies_decide bound (bound_ready bound h) qs)
      (λ all k. gives_decides (bound, all)))

  pub queries_told : (bound : Environment) (all : List Query) → queries_typed env qs ≡ Ok (bound, all) → AreQueries env qs bound all
  unfolding AreQueries
  queries_told bound all is = queries_decide.told (bound, all) is

  pub queries_only : (bound : Environment) (all : List Query) → AreQueries env qs bound all → queries_typed env qs ≡ Ok (bound, all)
  unfolding AreQueries
  queries_only bound all has = queries_decide.only (bound, all) has

  pub queries_fault : (f : TypeFault) → queries_typed env qs ≡ Err f → StandInQueries env qs f
  unfolding StandInQueries
  queries_fault f is = queries_decide.fault f is

  pub queries_known : (f : TypeFault) → StandInQueries env qs f → (g : TypeFault) × (queries_typed env qs ≡ Err g)
  unfolding StandInQueries
  queries_known f stands = by (queries_typed env qs) refl
    where
      by : (r : RuleResult (Environment × List Query)) → queries_typed env qs ≡ r → (g : TypeFault) × (queries_typed env qs ≡ Err g)
      by (Ok p) is = absurd (queries_decide.refused f stands p is)
      by (Err g) is = (g, is)
