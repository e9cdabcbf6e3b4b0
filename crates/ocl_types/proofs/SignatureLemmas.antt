-- Queries that are typed are in reach with the types of their parameters and results, which depend on no other query.
use Rattle.std.proofs.Common.{◌≡◌, ℕ, List, [], ◌∷◌, ◌++◌, Bool, true, false, Ok, Err, map, refl, sym, ◌∙◌, ap, subst, append_assoc, append-nil}
use Rattle.std.specs.Prelude.{Result, IfOk}
use Rattle.std.proofs.lemmas.List.{map-append}
use Rattle.qv_syntax.specs.declared.ty.Ty.{Ty}
use Rattle.qv_syntax.specs.declared.type_tree.TypeTree.{TypeTree, fold-TypeTree}
use Rattle.qv_syntax.specs.declared.type_tree.TypeTree.TheOpen as of
use Rattle.qv_syntax.specs.declared.query.Query.{Query}
use Rattle.qv_syntax.specs.declared.query.QueryTree.{QueryTree}
use Rattle.qv_syntax.specs.declared.query.ParamTree.{ParamTree}
use Rattle.ocl_environments.specs.declared.fault.TypeFault.{TypeFault}
use Rattle.ocl_environments.specs.declared.variable.Signature.{Signature}
use Rattle.ocl_environments.specs.Environments.{Environment, without_queries, without_variables, with_query}
use Rattle.ocl_environments.specs.Written.{written_step}
use Rattle.ocl_environments.specs.Agreement.{fits}
use Rattle.ocl_environments.specs.Outcomes.{RuleResult, and_then, asking, wrong_type}
use Rattle.ocl_types.specs.TypingScopes.{declared_type, flat, let_type}
use Rattle.ocl_environments.specs.Lets.{free_name}
use Rattle.ocl_types.specs.Typing.{typed}
use Rattle.ocl_types.specs.QueryTyping.{params_from, signature_of, query_bound, queries_bound, body_typed, query_typed, queries_from, queries_typed, with_param, signed}
use Rattle.ocl_types.proofs.JudgedLaws.{ok_ok, ok_err}

-- ---- no query is looked at for a type

written_layer : (env : Environment) (layer : of.TypeTree-F (Result Ty TypeFault)) → written_step (without_queries env) layer ≡ written_step env layer
written_layer env (of.Str span) = refl
written_layer env (of.Int span) = refl
written_layer env (of.Bool span) = refl
written_layer env (of.Named path) = refl
written_layer env (of.Coll kind inner span) = refl

declared_same : (env : Environment) (tree : TypeTree) → declared_type (without_queries env) tree ≡ declared_type env tree
declared_same env tree = ap (λ o. and_then o (flat env.metas)) (λ i. fold-TypeTree (Result Ty TypeFault) (λ layer. written_layer env layer i) tree)

-- what is in reach without the queries, and types
abbrev bare : RuleResult (Environment × List Ty) → RuleResult (Environment × List Ty)
bare (Ok p) = Ok (without_queries p.0, p.1)
bare (Err f) = Err f

param_next : (env : Environment) (types : List Ty) (p : ParamTree) (ps : List ParamTree)
    → ((ty : Ty) → params_from (without_queries (with_param env p.name.text ty)) (types ++ ty ∷ []) ps ≡ bare (params_from (with_param env p.name.text ty) (types ++ ty ∷ []) ps))
    → (r : RuleResult Ty)
    → and_then r (λ ty. params_from (without_queries (with_param env p.name.text ty)) (types ++ ty ∷ []) ps) ≡ bare (and_then r (λ ty. params_from (with_param env p.name.text ty) (types ++ ty ∷ []) ps))
param_next env types p ps later (Ok ty) = later ty
param_next env types p ps later (Err f) = refl

params_same : (env : Environment) (types : List Ty) (ps : List ParamTree) → params_from (without_queries env) types ps ≡ bare (params_from env types ps)
unfolding params_from
params_same env types [] = refl
params_same env types (p ∷ ps) =
    ap (λ r. and_then r (λ ty. params_from (without_queries (with_param env p.name.text ty)) (types ++ ty ∷ []) ps))
    (ap (λ o. and_then (free_name env p.name.text) (λ u. o)) (declared_same env p.ty))
    ∙ param_next env types p ps (λ ty. params_same (with_param env p.name.text ty) (types ++ ty ∷ []) ps) (let_type env p.name.text p.ty)

abbrev signature_made : Ty → RuleResult (Environment × List Ty) → RuleResult Signature
signature_made result r = and_then r (λ p. Ok (record { params = p.1; result = result }))

made_bare : (result : Ty) (r : RuleResult (Environment × List Ty)) → signature_made result (bare r) ≡ signature_made result r
made_bare result (Ok p) = refl
made_bare result (Err f) = refl

signature_same : (env : Environment) (q : QueryTree) → signature_of (without_queries env) q ≡ signature_of env q
unfolding params_from
signature_same env q =
    ap (λ o. and_then o (λ result. signature_made result (params_from (without_queries env) [] q.params))) (declared_same env q.result)
    ∙ next (declared_type env q.result)
  where
    next : (o : RuleResult Ty) → and_then o (λ result. signature_made result (params_from (without_queries env) [] q.params)) ≡ and_then o (λ result. signature_made result (params_from env [] q.params))
    next (Ok result) = ap (signature_made result) (params_same env [] q.params) ∙ made_bare result (params_from env [] q.params)
    next (Err f) = refl

-- ---- the signatures of queries

abbrev signatures : Environment → List QueryTree → RuleResult (List (List ℕ × Signature))
signatures env [] = Ok []
signatures env (q ∷ qs) = and_then (signature_of env q) (λ s. and_then (signatures env qs) (λ ss. Ok ((q.name.text, s) ∷ ss)))

one_signature : (env : Environment) (q : QueryTree) (qs : List QueryTree) (s : Signature) (ss : List (List ℕ × Signature)) → signature_of env q ≡ Ok s → signatures env qs ≡ Ok ss
    → signatures env (q ∷ qs) ≡ Ok ((q.name.text, s) ∷ ss)
one_signature env q qs s ss one rest =
    ap (λ o. and_then o (λ s. and_then (signatures env qs) (λ ss. Ok ((q.name.text, s) ∷ ss)))) one ∙ ap (λ o. and_then o (λ ss. Ok ((q.name.text, s) ∷ ss))) rest

-- ---- of queries that are brought into reach

record Reached (env bound : Environment) (qs : List QueryTree) : Type 0 where
  pub all : List (List ℕ × Signature)
  pub are : signatures (without_queries env) qs ≡ Ok all
  pub queries : bound.queries ≡ env.queries ++ all
  pub kept : without_queries bound ≡ without_queries env

ok_part : {X Y : Type 0} (r : RuleResult X) (k : X → RuleResult Y) (y : Y) → and_then r k ≡ Ok y → (x : X) × (r ≡ Ok x) × (k x ≡ Ok y)
ok_part (Ok x) k y h = (x, refl, h)
ok_part {Y = Y} (Err f) k y h = absurd (ok_err {X = Y} (Err f) y f h refl)

asked : {X : Type 0} (b : Bool) (f : TypeFault) (r : RuleResult X) (x : X) → asking b f r ≡ Ok x → r ≡ Ok x
asked true f r x h = h
asked {X = X} false f r x h = absurd (ok_err {X = X} (Err f) x f h refl)

one_bound : (env next : Environment) (q : QueryTree) → query_bound env q ≡ Ok next → (s : Signature) × (signature_of env q ≡ Ok s) × (next ≡ with_query env q.name.text s)
one_bound env next q h =
    let (s, is, k) = ok_part (signature_of env q) (λ signature. Ok (with_query env q.name.text signature)) next (asked _ _ (and_then (signature_of env q) (λ signature. Ok (with_query env q.name.text signature))) next h) in
    (s, is, ok_ok (Ok next) next (with_query env q.name.text s) refl (sym k))

reached : (qs : List QueryTree) (env bound : Environment) → queries_bound env qs ≡ Ok bound → Reached env bound qs
unfolding queries_bound
reached [] env bound h =
    let same : env ≡ bound = ok_ok (Ok env) env bound refl h in
    record { all = []; are = refl; queries = ap (λ (e : Environment). e.queries) (sym same) ∙ sym (append-nil env.queries); kept = ap without_queries (sym same) }
reached (q ∷ qs) env bound h =
    let (next, is, rest) = ok_part (query_bound env q) (λ b. queries_bound b qs) bound h in
    let (s, has, made) = one_bound env next q is in
    let later : Reached next bound qs = reached qs next bound rest in
    let bare : without_queries next ≡ without_queries env = ap without_queries made in
    record {
      all = (q.name.text, s) ∷ later.all;
      are = one_signature (without_queries env) q qs s later.all (signature_same env q ∙ has) (subst (λ (e : Environment). signatures e qs ≡ Ok later.all) bare later.are);
      queries = later.queries ∙ ap (λ (e : Environment). e.queries ++ later.all) made ∙ append_assoc env.queries ((q.name.text, s) ∷ []) later.all;
      kept = later.kept ∙ bare;
    }

-- ---- of queries that are typed

one_typed : (env : Environment) (q : QueryTree) (query : Query) → query_typed env q ≡ Ok query → (signature_of env q ≡ Ok (signed query).1) × (query.name ≡ q.name.text)
one_typed env q query h =
    let (result, one, k) = ok_part (declared_type env q.result) (λ result. and_then (params_from env [] q.params) (λ p. body_typed env result p q)) query h in
    let (p, two, m) = ok_part (params_from env [] q.params) (λ p. body_typed env result p q) query k in
    let (body, three, n) = ok_part (typed p.0 q.body)
    (λ body. asking (fits env.metas body.ty result) (wrong_type env.metas result body.ty) (Ok (record { name = q.name.text; params = p.1; result = result; body = body }))) query m in
    let made : Query = record { name = q.name.text; params = p.1; result = result; body = body } in
    let same : made ≡ query = ok_ok (Ok made) made query refl (asked (fits env.metas body.ty result) (wrong_type env.metas result body.ty) (Ok made) query n) in (
      ap (λ o. and_then o (λ r. signature_made r (params_from env [] q.params))) one ∙ ap (signature_made result) two ∙ ap (λ (x : Query). Ok (signed x).1) same,
      ap (λ (x : Query). x.name) (sym same),
    )

record Typed_so (env : Environment) (before all : List Query) (qs : List QueryTree) : Type 0 where
  pub more : List (List ℕ × Signature)
  pub are : signatures (without_queries env) qs ≡ Ok more
  pub is : map signed all ≡ map signed before ++ more

typed_so : (qs : List QueryTree) (env : Environment) (before all : List Query) → queries_from env before qs ≡ Ok all → Typed_so env before all qs
unfolding queries_from
typed_so [] env before all h = record { more = []; are = refl; is = ap (map signed) (sym (ok_ok (Ok before) before all refl h)) ∙ sym (append-nil (map signed before)) }
typed_so (q ∷ qs) env before all h =
    let (query, is, rest) = ok_part (query_typed env q) (λ query. queries_from env (before ++ query ∷ []) qs) all h in
    let (has, named) = one_typed env q query is in
    let later : Typed_so env (before ++ query ∷ []) all qs = typed_so qs env (before ++ query ∷ []) all rest in
    record {
      more = (q.name.text, (signed query).1) ∷ later.more;
      are = one_signature (without_queries env) q qs (signed query).1 later.more (signature_same env q ∙ has) later.are;
      is = later.is ∙ ap (λ (ss : List (List ℕ × Signature)). ss ++ later.more) (map-append signed before (query ∷ []))
          ∙ append_assoc (map signed before) (signed query ∷ []) later.more ∙ ap (λ (n : List ℕ). map signed before ++ (n, (signed query).1) ∷ later.more) named;
    }

pub in_reach : (env bound : Environment) (qs : List QueryTree) (all : List Query) → queries_typed env qs ≡ Ok (bound, all) → bound.queries ≡ env.queries ++ map signed all
unfolding queries_typed
in_reach env bound qs all h =
    let (b, one, k) = ok_part (queries_bound (without_variables env) qs) (λ bound. and_then (queries_from bound [] qs) (λ typed. Ok (bound, typed))) (bound, all) h in
    let (t, two, m) = ok_part (queries_from b [] qs) (λ typed. Ok (b, typed)) (bound, all) k in
    let same : (b, t) ≡ (bound, all) = ok_ok (Ok (b, t)) (b, t) (bound, all) refl m in
    let there : Reached (without_variables env) b qs = reached qs (without_variables env) b one in
    let bodies : Typed_so b [] t qs = typed_so qs b [] t two in
    let one_list : bodies.more ≡ there.all = ok_ok (signatures (without_queries b) qs) bodies.more there.all bodies.are (subst (λ (e : Environment). signatures e qs ≡ Ok there.all) (sym there.kept) there.are) in
    ap (λ (p : Environment × List Query). p.0.queries) (sym same) ∙ there.queries ∙ ap (λ ss. env.queries ++ ss) (sym (bodies.is ∙ one_list)) ∙ ap (λ (p : Environment × List Query). env.queries ++ map signed p.1) same

pub in_reach_of : {X : Type 0} (env new : Environment) (qs : List QueryTree) (r : Result (List Query) X) → IfOk r (λ all. queries_typed env qs ≡ Ok (without_variables new, all))
    → IfOk r (λ all. new.queries ≡ env.queries ++ map signed all)
in_reach_of env new qs (Ok all) h = in_reach env (without_variables new) qs all h
in_reach_of env new qs (Err e) h = tt
