-- The queries of a script have one typing over well metamodels, and each expression of a relation one typed tree, where the relation's
-- variables are its own (OCL 2.4, section 9.4; QVT 1.3, section 7.11.1.4).
use Rattle.std.proofs.Common.{◌≡◌, ℕ, List, [], ◌∷◌, if◌then◌else◌, refl, sym, ◌∙◌, ap, subst}
use Rattle.std.specs.Prelude.{Option, None, Some, IsTrue, slice_get}
use Rattle.std.specs.Option.{option_map}
use Rattle.std.proofs.lemmas.Option.{none-some, same_Some, slice_get-map}
use Rattle.mof_metamodel.specs.declared.desc.ClassId.{ClassId}
use Rattle.mof_metamodel.specs.declared.desc.MetaDesc.{MetaDesc}
use Rattle.qv_syntax.specs.declared.expr.Expr.{Expr}
use Rattle.qv_syntax.specs.declared.typed.Typed.{Typed}
use Rattle.qv_syntax.specs.declared.program.Var.{Var}
use Rattle.qv_syntax.specs.declared.query.Query.{Query}
use Rattle.qv_syntax.specs.declared.query.ParamTree.{ParamTree}
use Rattle.qv_syntax.specs.declared.query.QueryTree.{QueryTree}
use Rattle.qv_syntax.specs.declared.ty.Ty.{Ty}
use Rattle.qv_syntax.specs.declared.script.RelationTree.{RelationTree}
use Rattle.qv_syntax.specs.declared.script.Script.{Script}
use Rattle.qv_syntax.specs.TypedTrees.{Typing}
use Rattle.ocl_environments.specs.declared.variable.Signature.{Signature}
use Rattle.ocl_environments.specs.declared.variable.Variable.{Variable}
use Rattle.ocl_environments.specs.Agreement.{has_objects, model_for}
use Rattle.ocl_environments.specs.Environments.{Environment, AreWell, class_of, is_over, with_query, without_queries, without_variables}
use Rattle.ocl_types.specs.HasType.{HasType, HasTree, judgment}
use Rattle.ocl_environments.specs.Parts.{tree_of}
use Rattle.ocl_types.specs.Judged.{Judged, both}
use Rattle.ocl_environments.specs.Outcomes.{RuleResult}
use Rattle.ocl_types.specs.Queries.{AreQueries, params_judged, signature_judged, reached_judged, body_judged, bodies_judged}
use Rattle.ocl_types.specs.QueryTyping.{with_param}
use Rattle.ocl_types.specs.TypeRules.{declared_judged, let_judged}
use Rattle.ocl_types.specs.TypingScopes.{declared_type, let_type}
use Rattle.ocl_types.specs.Typing.{part_of}
use Rattle.ocl_types.specs.TypedContext.{variable_typing}
use Rattle.ocl_types.proofs.JudgedLaws.{Decides, ok_ok}
use Rattle.ocl_types.proofs.LayerLaws.{is_class, none_kept, objects_of_class}
use Rattle.ocl_types.proofs.QueriesDecide.{params_ready, reached_ready}
use Rattle.ocl_types.proofs.RuleLaws.{let_decides}
use Rattle.ocl_types.proofs.TypedParts.{IsReady}
use Rattle.ocl_types.proofs.TypingDecides.{decided}
use Rattle.ocl_types.proofs.WrittenLaws.{declared_decides}
use Rattle.script_scopes.specs.Occurrences.{variables_of}
use Rattle.script_scopes.specs.Declarations.{queries_of}
use Rattle.script_scopes.specs.Environments.{Setting, in_script, in_relation, named_variables}
use Rattle.script_scopes.specs.Resolutions.{IsVariable}
use Rattle.script_scopes.specs.Faults.{HasQueries, AreVariables}
use Rattle.script_variables.proofs.VariableLaws.{not_class}
use Rattle.qvtr_types.specs.ResolvedScripts.{setting_of}
use Rattle.qvtr_types.proofs.DataNameLaws.{zip_here}
use Rattle.qvtr_types.proofs.well_formed.Numbers.{named_at}

-- ---- what queries are judged to be

one_of : {X : Type 0} (r : RuleResult X) (j : Judged X) → Decides r j → (a b : X) → j.has a → j.has b → a ≡ b
one_of r j d a b one other = ok_ok r a b (d.only a one) (d.only b other)

one_params : (env : Environment) (ps : List ParamTree) (a b : Environment × List Ty) → (params_judged env ps).has a → (params_judged env ps).has b → a ≡ b
one_params env [] a b one other = one ∙ sym other
one_params env (p ∷ ps) a b one other =
    let ty : one.0 ≡ other.0 = one_of (let_type env p.name.text p.ty) (let_judged env p.name.text p.ty) (let_decides env p.name.text p.ty) one.0 other.0 one.1 other.1 in
    let rest : one.2.0 ≡ other.2.0 = one_params (with_param env p.name.text one.0) ps one.2.0 other.2.0 one.2.1
    (subst (λ (t : Ty). (params_judged (with_param env p.name.text t) ps).has other.2.0) (sym ty) other.2.1) in
    let same : ◌≡◌ {A = Environment × List Ty} (one.2.0.0, one.0 ∷ one.2.0.1) (other.2.0.0, other.0 ∷ other.2.0.1) = (λ i. ((rest i).0, ty i ∷ (rest i).1)) in
    one.2.2 ∙ same ∙ sym other.2.2

-- the type that a query writes for its result, and its parameters
module _ (env : Environment) (q : QueryTree) (a b : Ty × (Environment × List Ty)) where
  abbrev typed : Judged (Ty × (Environment × List Ty))
  typed = both (declared_judged env q.result) (params_judged env q.params)

  one_typing : typed.has a → typed.has b → a ≡ b
  one_typing one other =
      let ty : a.0 ≡ b.0 = one_of (declared_type env q.result) (declared_judged env q.result) (declared_decides env q.result) a.0 b.0 one.0 other.0 in
      let params : a.1 ≡ b.1 = one_params env q.params a.1 b.1 one.1 other.1 in
      λ i. (ty i, params i)

one_signature : (env : Environment) (q : QueryTree) (s u : Signature) → (signature_judged env q).has s → (signature_judged env q).has u → s ≡ u
one_signature env q s u one other =
    one.2 ∙ ap (λ (p : Ty × (Environment × List Ty)). record { params = p.1.1; result = p.0 }) (one_typing env q one.0 other.0 one.1 other.1) ∙ sym other.2

one_reached : (env : Environment) (qs : List QueryTree) (a b : Environment) → (reached_judged env qs).has a → (reached_judged env qs).has b → a ≡ b
one_reached env [] a b one other = one ∙ sym other
one_reached env (q ∷ qs) a b one other =
    let same : one.0 ≡ other.0 = one.1.1.2 ∙ ap (with_query env q.name.text) (one_signature env q one.1.1.0 other.1.1.0 one.1.1.1 other.1.1.1) ∙ sym other.1.1.2 in
    one_reached one.0 qs a b one.2 (subst (λ (e : Environment). (reached_judged e qs).has b) (sym same) other.2)

one_body : (env : Environment) (ready : IsReady env) (q : QueryTree) (p : Ty × (Environment × List Ty)) → (params_judged env q.params).has p.1 → (a b : Query)
    → (body_judged env p.0 p.1 q).has a → (body_judged env p.0 p.1 q).has b → a ≡ b
one_body env ready q p has a b one other =
    let decides = decided p.1.0 (params_ready env ready q.params p.1 has) q.body in
    let part : one.1.0 ≡ other.1.0 = one_of (part_of p.1.0 q.body) ((judgment q.body).part p.1.0) decides one.1.0 other.1.0 one.1.1 other.1.1 in
    let body : one.0 ≡ other.0 = one.1.2 ∙ ap tree_of part ∙ sym other.1.2 in
    one.2.1 ∙ ap (λ (t : Typed). record { name = q.name.text; params = p.1.1; result = p.0; body = t }) body ∙ sym other.2.1

one_bodies : (env : Environment) → IsReady env → (qs : List QueryTree) (xs ys : List Query) → (bodies_judged env qs).has xs → (bodies_judged env qs).has ys → xs ≡ ys
one_bodies env ready [] xs ys one other = one ∙ sym other
one_bodies env ready (q ∷ qs) xs ys one other =
    let x = one.1.0 in
    let y = other.1.0 in
    let typing : x.0 ≡ y.0 = one_typing env q x.0 y.0 x.1 y.1 in
    let first : one.0.0 ≡ other.0.0 = one_body env ready q x.0 x.1.1 one.0.0 other.0.0 x.2
    (subst (λ (p : Ty × (Environment × List Ty)). (body_judged env p.0 p.1 q).has other.0.0) (sym typing) y.2) in
    let rest : one.0.1 ≡ other.0.1 = one_bodies env ready qs one.0.1 other.0.1 one.1.1 other.1.1 in
    let same : one.0.0 ∷ one.0.1 ≡ other.0.0 ∷ other.0.1 = (λ i. first i ∷ rest i) in
    one.2 ∙ same ∙ sym other.2

-- ---- queries

module _ (metas : List MetaDesc) (script : Script) (target : List ℕ) (well : AreWell metas) where
  -- nothing of queries or variables is in reach
  abbrev bare : Environment
  bare = without_variables (without_queries (in_script (setting_of metas script target [])))

  bare_ready : IsReady bare
  bare_ready = record {
    well = well;
    over = λ v n at. absurd (none-some v at);
    results = λ q n at. absurd (none-some q at);
    kept = λ v n at. absurd (none-some v at);
  }

  pub one_queries : (xs ys : List Query) → HasQueries (setting_of metas script target xs) → HasQueries (setting_of metas script target ys) → xs ≡ ys
  unfolding AreQueries
  one_queries xs ys one other =
      let bound : one.0 ≡ other.0 = one_reached bare (queries_of script) one.0 other.0 one.1 other.1 in
      let typed : one.2.0 ≡ other.2.0 = one_bodies one.0 (reached_ready bare bare_ready (queries_of script) one.0 one.1) (queries_of script) one.2.0 other.2.0 one.2.1
      (subst (λ (e : Environment). (bodies_judged e (queries_of script)).has other.2.0) (sym bound) other.2.1) in
      ap (λ (p : Environment × List Query). p.1) one.2.2 ∙ typed ∙ ap (λ (p : Environment × List Query). p.1) (sym other.2.2)

  pub script_ready : (queries : List Query) → HasQueries (setting_of metas script target queries) → IsReady (in_script (setting_of metas script target queries))
  unfolding AreQueries
  script_ready queries has = subst IsReady (ap (λ (p : Environment × List Query). p.0) (sym has.2.2)) (reached_ready bare bare_ready (queries_of script) has.0 has.1)

-- ---- expressions

-- where each type of a variable is of the metamodels
module _ (s : Setting) (ready : IsReady (in_script s)) (r : RelationTree) (vars : List Var) (are : AreVariables s r vars)
    (over : (name : List ℕ) (var : Var) → IsVariable s r name var → IsTrue (is_over s.metas var.ty)) where
  kept : (name : List ℕ) (var : Var) → IsVariable s r name var → model_for var.ty var.model ≡ var.model
  kept name var is = by (class_of var.ty) refl
    where
      by : (o : Option (ℕ × ClassId)) → class_of var.ty ≡ o → model_for var.ty var.model ≡ var.model
      by None at = let none = is.data_value (not_class var.ty at) in ap (model_for var.ty) none ∙ none_kept var.ty ∙ sym none
      by (Some c) at = ap (λ b. if b then var.model else None) (ap has_objects (is_class var.ty c at) ∙ objects_of_class c.0 c.1)

  -- the variable at a place
  at_place : (v : List ℕ × Variable) (n : ℕ) → slice_get (named_variables (variables_of r) vars) n ≡ Some v → (var : Var) × IsVariable s r v.0 var × (v.1 ≡ record { ty = var.ty; model = var.model })
  at_place v n at =
      let (var, name, found, is) = named_at (variables_of r) vars n v.0 v.1 at in
      (var, zip_here (IsVariable s r) (variables_of r) vars n v.0 var are name found, is)

  over_at : (v : Typing) (n : ℕ) → (o : Option (List ℕ × Variable)) → slice_get (named_variables (variables_of r) vars) n ≡ o → option_map variable_typing o ≡ Some v → IsTrue (is_over s.metas v.ty)
  over_at v n None at is = absurd (none-some v is)
  over_at v n (Some w) at is =
      let (var, one, same) = at_place w n at in
      subst (λ (u : Typing). IsTrue (is_over s.metas u.ty)) (same_Some (variable_typing w) v is)
      (subst (λ (x : Variable). IsTrue (is_over s.metas x.ty)) (sym same) (over w.0 var one))

  relation_ready : IsReady (in_relation s r vars)
  relation_ready = record {
    well = ready.well;
    over = λ v n at. over_at v n (slice_get (named_variables (variables_of r) vars) n) refl (sym (slice_get-map variable_typing (named_variables (variables_of r) vars) n) ∙ at);
    results = ready.results;
    kept = λ v n at. let (var, is, same) = at_place v n at in subst (λ (x : Variable). model_for x.ty x.model ≡ x.model) (sym same) (kept v.0 var is);
  }

  pub one_tree : (e : Expr) (t u : Typed) → HasTree (in_relation s r vars) e t → HasTree (in_relation s r vars) e u → t ≡ u
  unfolding HasType
  one_tree e t u one other =
      let env : Environment = in_relation s r vars in
      let decides = decided env relation_ready e in
      let same : one.0 ≡ other.0 = ok_ok (part_of env e) one.0 other.0 (decides.only one.0 one.1) (decides.only other.0 other.1) in
      one.2 ∙ ap tree_of same ∙ sym other.2
