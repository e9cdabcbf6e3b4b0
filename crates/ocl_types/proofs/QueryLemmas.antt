-- Queries one after the other: what a function that types them all answers.
use Rattle.std.proofs.Common.{◌≡◌, ◌<◌, ◌+◌, ℕ, List, [], ◌∷◌, ◌++◌, drop, get_or, map, Bor, Option, None, Some, Result, Ok, Err, length, refl, sym, ◌∙◌, ap, subst, inl, inr}
use Rattle.std.specs.Prelude.{IsTrue, IfSome, IfOk, OnOk}
use Rattle.std.specs.List.{list_all}
use Rattle.std.proofs.lemmas.List.{drop_more}
use Rattle.mof_metamodel.specs.Giving.{Gives}
use Rattle.qv_syntax.specs.declared.query.Query.{Query}
use Rattle.qv_syntax.specs.declared.query.QueryTree.{QueryTree}
use Rattle.ocl_environments.specs.declared.fault.TypeFault.{TypeFault}
use Rattle.ocl_environments.specs.declared.variable.Variable.{Variable}
use Rattle.ocl_environments.specs.Environments.{Environment, NamesWith, is_variable, without_variables, without_names, without_queries}
use Rattle.ocl_environments.specs.declared.fault.TypeError.{TypeError}
use Rattle.qv_syntax.specs.declared.ty.Ty.{Ty}
use Rattle.qv_syntax.specs.declared.typed.Typed.{Typed}
use Rattle.ocl_environments.specs.Written.{fault_in, IfFault}
use Rattle.ocl_environments.specs.Agreement.{fits}
use Rattle.ocl_types.specs.TypingScopes.{declared_type}
use Rattle.ocl_types.specs.Typing.{typed}
use Rattle.ocl_environments.specs.Outcomes.{RuleResult, and_then, asking, wrong_type}
use Rattle.ocl_types.specs.QueryTyping.{params_from, body_typed, query_typed, queries_bound, queries_from, queries_typed, IsFirstFault}
use Rattle.ocl_environments.specs.QueryCalls.{IsCycleFault}

abbrev pub both_answered : Environment × List Query → RuleResult (Environment × List Query)
both_answered p = Ok p

abbrev answered : Query → RuleResult Query
answered q = Ok q

pub fault_told : (o : Option TypeFault) (P Q : TypeFault → Type 0) → ((f : TypeFault) → P f → Q f) → IfSome o P → IfSome o Q
fault_told None P Q tells fault = tt
fault_told (Some f) P Q tells fault = tells f fault

-- of an error that holds what another holds
pub err_told : {X : Type 0} (r : Result X TypeError) (y e : TypeError) (P Q : TypeFault → Type 0) → r ≡ Err y → y ≡ e → ((f : TypeFault) → Q f → P f)
    → IfSome (fault_in e) Q → IfFault r P
err_told r y e P Q is same tells fault =
    subst (λ k. IfFault k P) (sym is) (subst (λ z. IfSome (fault_in z) P) (sym same) (fault_told (fault_in e) Q P tells fault))

pub fault_of_result : {X : Type 0} (r : Result X TypeError) (P Q : TypeFault → Type 0) → ((f : TypeFault) → P f → Q f) → IfFault r P → IfFault r Q
fault_of_result (Ok x) P Q tells fault = tt
fault_of_result (Err e) P Q tells fault = fault_told (fault_in e) P Q tells fault

pub ok_told : {X E : Type 0} (r : Result X E) (A : Type 0) (P Q : X → Type 0) → ((x : X) → A → P x → Q x) → OnOk r A → IfOk r P → IfOk r Q
ok_told (Ok x) A P Q tells also is = tells x also is
ok_told (Err e) A P Q tells also is = tt

-- a query of a typed body
pub query_made : (env reached after : Environment) (q : QueryTree) (result : Ty) (params : List Ty) (body : Typed)
    → declared_type env q.result ≡ Ok result → params_from env [] q.params ≡ Ok (reached, params) → typed reached q.body ≡ Ok body → after.metas ≡ env.metas
    → asking (fits after.metas body.ty result) (wrong_type after.metas result body.ty) (answered (record { name = q.name.text; params = params; result = result; body = body }))
    ≡ query_typed env q
query_made env reached after q result params body made told is metas =
    ap (λ ms. asking (fits ms body.ty result) (wrong_type ms result body.ty) (answered (record { name = q.name.text; params = params; result = result; body = body }))) metas
    ∙ sym (ap (λ o. and_then o (λ r. and_then (params_from env [] q.params) (λ p. body_typed env r p q))) made
    ∙ ap (λ o. and_then o (λ p. body_typed env result p q)) told
    ∙ ap (λ o. and_then o (λ b. asking (fits env.metas b.ty result) (wrong_type env.metas result b.ty) (answered (record { name = q.name.text; params = params; result = result; body = b })))) is)

module _ (env : Environment) (qs : List QueryTree) (empty : without_variables env ≡ env) where
  from_bound : queries_typed env qs ≡ and_then (queries_bound env qs) (λ bound. and_then (queries_from bound [] qs) (λ typed. Ok (bound, typed)))
  unfolding queries_typed
  from_bound = ap (λ e. and_then (queries_bound e qs) (λ bound. and_then (queries_from bound [] qs) (λ typed. Ok (bound, typed)))) empty

  pub bound_failed : (f : TypeFault) → queries_bound env qs ≡ Err f → IsFirstFault env qs f
  bound_failed f is = inl (from_bound ∙ ap (λ o. and_then o (λ bound. and_then (queries_from bound [] qs) (λ typed. Ok (bound, typed)))) is)

  module _ (bound : Environment) (is : queries_bound env qs ≡ Ok bound) where
    from_bodies : queries_typed env qs ≡ and_then (queries_from bound [] qs) (λ typed. Ok (bound, typed))
    from_bodies = from_bound ∙ ap (λ o. and_then o (λ bound. and_then (queries_from bound [] qs) (λ typed. Ok (bound, typed)))) is

    pub bodies_failed : (f : TypeFault) → queries_from bound [] qs ≡ Err f → IsFirstFault env qs f
    bodies_failed f fails = inl (from_bodies ∙ ap (λ o. and_then o (λ typed. Ok (bound, typed))) fails)

    pub all_typed : (typed : List Query) → queries_from bound [] qs ≡ Ok typed → queries_typed env qs ≡ Ok (bound, typed)
    all_typed typed told = from_bodies ∙ ap (λ o. and_then o (λ typed. Ok (bound, typed))) told

    pub cycle_failed : (typed : List Query) (f : TypeFault) → queries_from bound [] qs ≡ Ok typed → IsCycleFault (length env.queries) typed f → IsFirstFault env qs f
    cycle_failed typed f told cycle = inr (bound, typed, all_typed typed told, cycle)

-- ---- variables taken out of reach and put back

-- what is typed without the variables
pub typed_without : (env : Environment) (qs : List QueryTree) → queries_typed (without_variables env) qs ≡ queries_typed env qs
unfolding queries_typed
typed_without env qs = refl

pub fault_without : (env : Environment) (qs : List QueryTree) (f : TypeFault) → IsFirstFault (without_variables env) qs f → IsFirstFault env qs f
unfolding queries_typed
fault_without env qs f stands = stands

-- the variables stand in order where metamodels and models are the same
pub kept_variables : (old new : Environment) (vs : NamesWith Variable) → without_names new ≡ without_names old → IsTrue (list_all (is_variable old) vs)
    → IsTrue (list_all (is_variable new) vs)
kept_variables old new vs kept typed = subst (λ (e : Environment). IsTrue (list_all (is_variable e) vs)) (sym kept) typed

-- with the variables put back, the queries alone are new
pub kept_queries : (old new : Environment) → without_names new ≡ without_names old → record new { variables = old.variables; queries = [] } ≡ without_queries old
kept_queries old new kept = ap (λ (e : Environment). record e { variables = old.variables }) kept

-- what was typed without the variables, once they are put back
pub put_typed : (env taken all put : Environment) (vs : NamesWith Variable) (qs : List QueryTree) (typed : List Query) → taken ≡ without_variables env
    → without_variables all ≡ all → put ≡ record all { variables = vs } → queries_typed taken qs ≡ Ok (all, typed)
    → queries_typed env qs ≡ Ok (without_variables put, typed)
put_typed env taken all put vs qs typed left empty kept is =
    sym (typed_without env qs) ∙ sym (ap (λ e. queries_typed e qs) left) ∙ is
    ∙ ap (λ e. both_answered (e, typed)) (sym (ap without_variables kept ∙ empty))

-- ---- bodies one after the other

-- an error holds the fault that is meant
pub gives_told : {X : Type 0} (r : Result X TypeError) (y e : TypeError) (meaning : RuleResult X) (Q : TypeFault → Type 0) → r ≡ Err y → y ≡ e
    → ((f : TypeFault) → Q f → meaning ≡ Err f) → IfSome (fault_in e) Q → Gives fault_in (λ x. x) r meaning
gives_told r y e meaning Q is same tells fault =
    subst (λ k. Gives fault_in (λ x. x) k meaning) (sym is)
    (subst (λ z. IfSome (fault_in z) (λ f. meaning ≡ Err f)) (sym same) (fault_told (fault_in e) Q (λ f. meaning ≡ Err f) tells fault))

abbrev shown : List (Bor QueryTree) → List QueryTree
shown qs = map {A = Bor QueryTree} {B = QueryTree} (λ q. q.now) qs

module _ (env : Environment) (acc : List Query) (qs : List (Bor QueryTree)) (i : ℕ) (t : Bor QueryTree) (within : i < length qs) (is : t ≡ get_or qs i t) where
  bodies_rest : queries_from env acc (shown (drop i qs)) ≡ and_then (query_typed env t.now) (λ q. queries_from env (acc ++ q ∷ []) (shown (drop (i + 1) qs)))
  unfolding queries_from
  bodies_rest = ap (λ ts. queries_from env acc (shown ts)) (drop_more qs i t within ∙ ap (λ x. x ∷ drop (i + 1) qs) (sym is))

  pub bodies_step : (q : Query) (grown : List Query) → query_typed env t.now ≡ Ok q → grown ≡ acc ++ q ∷ []
      → queries_from env grown (shown (drop (i + 1) qs)) ≡ queries_from env acc (shown (drop i qs))
  bodies_step q grown made more =
      ap (λ g. queries_from env g (shown (drop (i + 1) qs))) more
      ∙ sym (bodies_rest ∙ ap (λ o. and_then o (λ q. queries_from env (acc ++ q ∷ []) (shown (drop (i + 1) qs)))) made)

  pub bodies_stop : (f : TypeFault) → query_typed env t.now ≡ Err f → queries_from env acc (shown (drop i qs)) ≡ Err f
  bodies_stop f made = bodies_rest ∙ ap (λ o. and_then o (λ q. queries_from env (acc ++ q ∷ []) (shown (drop (i + 1) qs)))) made

-- ---- what is meant, of what a function gives

pub ok_given : {X : Type 0} (r : Result X TypeError) (meaning : RuleResult X) (P : X → Type 0) → ((x : X) → meaning ≡ Ok x → P x) → Gives fault_in (λ x. x) r meaning → IfOk r P
ok_given (Ok x) meaning P holds is = holds x is
ok_given (Err e) meaning P holds is = tt

pub fault_given : {X : Type 0} (r : Result X TypeError) (meaning : RuleResult X) (P : TypeFault → Type 0) → ((f : TypeFault) → meaning ≡ Err f → P f)
    → Gives fault_in (λ x. x) r meaning → IfFault r P
fault_given (Ok x) meaning P holds is = tt
fault_given (Err e) meaning P holds is = fault_told (fault_in e) (λ f. meaning ≡ Err f) P holds is
