-- Calls that leave a direction are those of a listed name that a relation outside has.
use Rattle.std.proofs.Common.{◌≡◌, ◌⊎◌, ℕ, zero, suc, List, [], ◌∷◌, ◌++◌, Bool, true, false, cond, refl, sym, ◌∙◌, ap, subst, arith, ⊎_elim, true≢false, inl, inr}
use Rattle.std.specs.Prelude.{Option, Some, None, Contains, All}
use Rattle.std.specs.List.{flat_map}
use Rattle.std.specs.Option.{option_map, option_to_list}
use Rattle.std.proofs.lemmas.List.Elements.{Contains-append_left, Contains-append_right, Contains-append_cases, All-contains}
use Rattle.mof_metamodel.proofs.PropLemmas.{to_flat_map, from_flat_map}
use Rattle.qv_syntax.specs.declared.expr.Expr.{Expr}
use Rattle.qv_syntax.specs.declared.script.BlockTree.{BlockTree}
use Rattle.qv_syntax.specs.declared.script.RelationTree.{RelationTree}
use Rattle.qv_syntax.specs.declared.script.Script.{Script}
use Rattle.ocl_environments.specs.declared.fault.TypeFault.{TypeFault}
use Rattle.ocl_environments.specs.declared.fault.TypeFault.TheVariants.{CallShape}
use Rattle.script_scopes.specs.ScriptNames.{each_once}
use Rattle.script_scopes.specs.Conjuncts.{clause_conjuncts, call_of}
use Rattle.script_scopes.specs.Occurrences.{relations_of}
use Rattle.script_scopes.specs.Directions.{IsInDirection, CallsIn, LeavesDirection}
use Rattle.script_scopes.specs.Environments.{Setting}
use Rattle.script_scopes.specs.Faults.{StandsInScript}
use Rattle.script_scopes.specs.UniversalNames.{has_domain_of}
use Rattle.script_scopes.specs.CallNames.{conjunct_call, clause_calls, inside_calls, outside_name, outside_names, IsCallFault}
use Rattle.script_scopes.proofs.MemberLemmas.{once_has, has_once}
use Rattle.script_scopes.proofs.DivisionLaws.{in_direction}

-- ---- what a clause calls

call_from : (conjunct : Expr) (name : List ℕ) → Contains (conjunct_call conjunct) name → (args : List Expr) × (call_of conjunct ≡ Some (name, args))
call_from conjunct name c = by (call_of conjunct) refl c
  where
    by : (o : Option (List ℕ × List Expr)) → call_of conjunct ≡ o → Contains (option_to_list (option_map (λ p. p.0) o)) name → (args : List Expr) × (call_of conjunct ≡ Some (name, args))
    by None e (k, l, at) = absurd (omega arith)
    by (Some call) e (zero, l, at) = (call.1, e ∙ ap (λ (n : List ℕ). Some (n, call.1)) at)
    by (Some call) e (suc k, l, at) = absurd (omega arith)

call_to : (conjunct : Expr) (name : List ℕ) (args : List Expr) → call_of conjunct ≡ Some (name, args) → Contains (conjunct_call conjunct) name
call_to conjunct name args e = subst (λ (o : Option (List ℕ × List Expr)). Contains (option_to_list (option_map (λ p. p.0) o)) name) (sym e) (0, omega arith, refl)

module _ (script : Script) (clause : Option BlockTree) (called : RelationTree) where
  calls_from : Contains (relations_of script) called → Contains (clause_calls clause) called.name.text → CallsIn script clause called
  calls_from relation c =
      let (conjunct, among, has) = from_flat_map conjunct_call (clause_conjuncts clause) called.name.text c in
      let (args, is) = call_from conjunct called.name.text has in
      (args, record { conjunct = conjunct; among = among; is = is; relation = relation })

  calls_to : CallsIn script clause called → Contains (clause_calls clause) called.name.text
  calls_to h = let (args, w) = h in to_flat_map conjunct_call (clause_conjuncts clause) w.conjunct called.name.text w.among (call_to w.conjunct called.name.text args w.is)

-- ---- inside and outside

module _ (script : Script) (target : List ℕ) where
  inside_from : (r : RelationTree) (name : List ℕ) → Contains (inside_calls target r) name → IsInDirection target r × (Contains (clause_calls r.when) name ⊎ Contains (clause_calls r.wheres) name)
  inside_from r name c = by (has_domain_of target r.domains) refl c
    where
      by : (b : Bool) → has_domain_of target r.domains ≡ b → Contains (cond b (clause_calls r.when ++ clause_calls r.wheres) []) name
          → IsInDirection target r × (Contains (clause_calls r.when) name ⊎ Contains (clause_calls r.wheres) name)
      by true e d = ((in_direction target r).0 e, Contains-append_cases (clause_calls r.when) (clause_calls r.wheres) name d)
      by false e (k, l, at) = absurd (omega arith)

  inside_to : (r : RelationTree) (name : List ℕ) → IsInDirection target r → Contains (clause_calls r.when) name ⊎ Contains (clause_calls r.wheres) name → Contains (inside_calls target r) name
  inside_to r name inside c = subst (λ (b : Bool). Contains (cond b (clause_calls r.when ++ clause_calls r.wheres) []) name) (sym ((in_direction target r).1 inside))
      (⊎_elim (λ left. Contains-append_left (clause_calls r.when) (clause_calls r.wheres) name left) (λ right. Contains-append_right (clause_calls r.when) (clause_calls r.wheres) name right) c)

  outside_from : (r : RelationTree) (name : List ℕ) → Contains (outside_name target r) name → (¬ IsInDirection target r) × (r.name.text ≡ name)
  outside_from r name c = by (has_domain_of target r.domains) refl c
    where
      by : (b : Bool) → has_domain_of target r.domains ≡ b → Contains (cond b [] (r.name.text ∷ [])) name → (¬ IsInDirection target r) × (r.name.text ≡ name)
      by true e (k, l, at) = absurd (omega arith)
      by false e (zero, l, at) = (λ inside. true≢false (sym ((in_direction target r).1 inside) ∙ e), at)
      by false e (suc k, l, at) = absurd (omega arith)

  outside_to : (r : RelationTree) → ¬ IsInDirection target r → Contains (outside_name target r) r.name.text
  outside_to r outside = by (has_domain_of target r.domains) refl
    where
      by : (b : Bool) → has_domain_of target r.domains ≡ b → Contains (cond b [] (r.name.text ∷ [])) r.name.text
      by true e = absurd (outside ((in_direction target r).0 e))
      by false e = (0, omega arith, refl)

  abbrev calls : List (List ℕ)
  calls = flat_map (inside_calls target) (relations_of script)

  abbrev names : List (List ℕ)
  names = outside_names target (relations_of script)

  pub none_leaves : All (λ name. ¬ Contains (each_once names) name) calls → (r called : RelationTree) → Contains (relations_of script) r → ¬ LeavesDirection script target r called
  none_leaves all r called among h =
      All-contains (λ (n : List ℕ). ¬ Contains (each_once names) n) calls called.name.text all
      (to_flat_map (inside_calls target) (relations_of script) r called.name.text among (inside_to r called.name.text h.inside (either h.call)))
      (once_has names called.name.text (to_flat_map (outside_name target) (relations_of script) called called.name.text (relation h.call) (outside_to called h.outside)))
    where
      either : CallsIn script r.when called ⊎ CallsIn script r.wheres called → Contains (clause_calls r.when) called.name.text ⊎ Contains (clause_calls r.wheres) called.name.text
      either (inl when) = inl (calls_to script r.when called when)
      either (inr wheres) = inr (calls_to script r.wheres called wheres)

      relation : CallsIn script r.when called ⊎ CallsIn script r.wheres called → Contains (relations_of script) called
      relation (inl when) = when.1.relation
      relation (inr wheres) = wheres.1.relation

  leaves : (name : List ℕ) → Contains calls name → Contains (each_once names) name
      → (r : RelationTree) × (called : RelationTree) × Contains (relations_of script) r × LeavesDirection script target r called × (called.name.text ≡ name)
  leaves name c o =
      let (r, among, has) = from_flat_map (inside_calls target) (relations_of script) name c in
      let (called, relation, out) = from_flat_map (outside_name target) (relations_of script) name (has_once names name o) in
      let (outside, is) = outside_from called name out in
      let (inside, call) = inside_from r name has in
      (r, called, among, record { inside = inside; call = either r called relation (sym is) call; outside = outside }, is)
    where
      either : (r called : RelationTree) → Contains (relations_of script) called → name ≡ called.name.text → Contains (clause_calls r.when) name ⊎ Contains (clause_calls r.wheres) name
          → CallsIn script r.when called ⊎ CallsIn script r.wheres called
      either r called relation is (inl when) = inl (calls_from script r.when called relation (subst (Contains (clause_calls r.when)) is when))
      either r called relation is (inr wheres) = inr (calls_from script r.wheres called relation (subst (Contains (clause_calls r.wheres)) is wheres))

  pub leaving_stands : (f : TypeFault) → IsCallFault (each_once names) calls f → (s : Setting) → s.script ≡ script → s.target ≡ target → StandsInScript s f
  leaving_stands f h s same aimed =
      let (r, called, among, leaves, is) = leaves h.name h.among h.other in
      subst (StandsInScript s) (ap CallShape is ∙ sym h.is)
      (StandsInScript.direction r called (subst (λ (x : Script). Contains (relations_of x) r) (sym same) among)
      (subst (λ (t : List ℕ). LeavesDirection s.script t r called) (sym aimed) (subst (λ (x : Script). LeavesDirection x target r called) (sym same) leaves)))
