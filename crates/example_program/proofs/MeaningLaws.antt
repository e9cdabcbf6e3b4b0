-- A relation that is told plainly is as a transformation means it, where the tests hold: its domains, its variables, its equations, its calls and strata.
use Rattle.std.proofs.Common.{◌≡◌, ◌≢◌, ◌<◌, ◌≤◌, ℕ, zero, suc, Bool, true, false, ◌&&◌, ◌||◌, List, [], ◌∷◌, ◌++◌, map, length, Option, None, Some, refl, sym, ap, ◌∙◌, subst, arith, inl, inr, append-nil, true≢false}
use Rattle.std.specs.Prelude.{◌⊎◌, ◌↔◌, not, nat_eq, nat_lt, nat_le, codes, slice_get, Contains, AllPairs}
use Rattle.std.specs.List.{list_all, flat_map, range_with_len}
use Rattle.std.proofs.lemmas.Bool.{false≢true, ltb-true, leb-true, and_parts}
use Rattle.std.proofs.lemmas.Option.{same_Some, none-some, slice_get_within}
use Rattle.mof_metamodel.specs.declared.desc.ClassId.{ClassId}
use Rattle.mof_metamodel.specs.Metamodels.{class_count}
use Rattle.mof_metamodel.proofs.Facts.{first_true, second_true, nothing_in, contains_map, contains_at}
use Rattle.qv_syntax.specs.declared.ty.Ty.TheVariants as types
use Rattle.qv_syntax.specs.declared.query.ModelSlot.{ModelSlot}
use Rattle.qv_syntax.specs.declared.typed.Typed.{Typed}
use Rattle.qv_syntax.specs.declared.program.Program.{Program}
use Rattle.qv_syntax.specs.declared.program.Rel.{Rel}
use Rattle.qv_syntax.specs.declared.program.Var.{Var}
use Rattle.qv_syntax.specs.declared.program.Dom.{Dom}
use Rattle.qv_syntax.specs.declared.program.Marker.{Marker}
use Rattle.qv_syntax.specs.declared.program.Marker.TheVariants as markers
use Rattle.qv_syntax.specs.declared.program.Tmpl.{Tmpl, out-Tmpl}
use Rattle.qv_syntax.specs.declared.program.Conj.{Conj}
use Rattle.qv_syntax.specs.declared.program.Conj.TheVariants as conjuncts
use Rattle.qv_syntax.specs.Parts.{Names, template_variables}
use Rattle.qv_syntax.specs.Relations.{IsModelDomain, IsTargetDomain, IsTemplateOf, IsUniversal, IsDataVariable, IsBound, Says, CallsIn, IsCallPath}
use Rattle.qv_syntax.specs.Directions.{IsDomainShaped, AreOfTwoModels, IsDeclared, domain_variables, HasDomains, IsInModel, HasVariables, IsGivenBefore, HasEquations, CallsInDirection, IsStratum, IsMeant}
use Rattle.example_program.specs.Words.{prefixed, source_domain, target_domain, primitive_domain}
use Rattle.example_program.specs.MainProgram.{main_models}
use Rattle.example_program.proofs.Tests.{zero_not_one, all_of, all_pairs_cons, image_of, image_at, at_image, has, in_list, listed, not_true, increasing, in_order, distinct, all_apart, below_of}
use Rattle.example_program.proofs.Plain.{Kind, texts, objects, var_of, Pattern, root_of, class_of_pattern, tmpl, parts_in, Spot, standings, argument_of, Call, call_of, Clause, given, called, conjunct_of, Relation, domains_of, rel_of, program_of}
use Rattle.example_program.proofs.ExpressionLaws.{plain_prefixed, names_are}
use Rattle.example_program.proofs.StandingLaws.{variable_is, class_is}
use Rattle.example_program.proofs.PatternLaws.{variables_are}
use Rattle.example_program.proofs.KindLaws.{var_is, HasKind, has_kind, IsOfKind, of_kind, var_with, type_of_kind, model_of_kind, text_is_no_class, same_model, data_is_text, text_is_data}
use Rattle.example_program.proofs.DomainLaws.{WhichDomain, of_source, of_target, of_prefix, which_domain, source_there, target_there, prefix_there, IsPlaced, in_source, in_target, placed}
use Rattle.example_program.proofs.UniversalLaws.{AreStorable, AreGood, text_from, alone_in_domain, first_source, universal_has, universal_from, existential_is, not_universal_has, existential_has, not_has_universal}
use Rattle.example_program.proofs.Checks.{desc_of, is_kind, is_known_kind, vars_ok, call_ok, clause_ok, clauses_ok, roots_of, roots_ok, prefix_ok, part_ok, pattern_ok, patterns_ok, is_class, texts_of, universal_ok, order_ok, bound_at, bound_ok, is_call, equation_ok, equations_in, equations_ok, stratum_of, where_stratum_ok, strata_ok}

-- ---- marks

is_primitive_mark : Marker → Bool
is_primitive_mark markers.Primitive = true
is_primitive_mark markers.Checkonly = false
is_primitive_mark markers.Enforce = false

checkonly_not_primitive : markers.Checkonly ≢ markers.Primitive
unfolding is_primitive_mark
checkonly_not_primitive e = false≢true (ap is_primitive_mark e)

enforce_not_primitive : markers.Enforce ≢ markers.Primitive
unfolding is_primitive_mark
enforce_not_primitive e = false≢true (ap is_primitive_mark e)

-- ---- conjuncts

pub call_no_equation : (number : ℕ) (args : List Typed) (v : ℕ) (e : Typed) → conjuncts.Call number args ≡ conjuncts.Equation v e → ⊥
call_no_equation number args v e h = cc

pub call_no_condition : (number : ℕ) (args : List Typed) (c : Typed) → conjuncts.Call number args ≡ conjuncts.Cond c → ⊥
call_no_condition number args c h = cc

pub equation_no_condition : (v : ℕ) (e c : Typed) → conjuncts.Equation v e ≡ conjuncts.Cond c → ⊥
equation_no_condition v e c h = cc

pub same_subject : (v w : ℕ) (e f : Typed) → conjuncts.Equation v e ≡ conjuncts.Equation w f → v ≡ w
same_subject v w e f h = cc

pub same_value : (v w : ℕ) (e f : Typed) → conjuncts.Equation v e ≡ conjuncts.Equation w f → e ≡ f
same_value v w e f h = cc

pub same_number : (n m : ℕ) (es fs : List Typed) → conjuncts.Call n es ≡ conjuncts.Call m fs → n ≡ m
same_number n m es fs h = cc

pub same_arguments : (n m : ℕ) (es fs : List Typed) → conjuncts.Call n es ≡ conjuncts.Call m fs → es ≡ fs
same_arguments n m es fs h = cc

-- an equation is the first conjunct
pub first_only : (r : Relation) (cs : List Clause) → equations_in r cs ≡ true → (place v prefix name : ℕ) → slice_get cs place ≡ Some (given v prefix name)
    → (place ≡ 0) × (equation_ok r (given v prefix name) ≡ true)
first_only r [] e place v prefix name found = absurd (none-some (given v prefix name) found)
first_only r (c ∷ cs) e zero v prefix name found = (refl, subst (λ x. equation_ok r x ≡ true) (same_Some c (given v prefix name) found) (first_true (equation_ok r c) (list_all is_call cs) e))
first_only r (c ∷ cs) e (suc k) v prefix name found =
    absurd (false≢true (all_of is_call cs (second_true (equation_ok r c) (list_all is_call cs) e) (given v prefix name) (contains_at cs k (given v prefix name) found)))

-- ---- domains

module _ (rs : List Relation) (r : Relation) where
  abbrev program : Program
  program = program_of rs

  abbrev rel : Rel
  rel = rel_of r

  shaped_by : (dom : Dom) → WhichDomain r dom → IsDomainShaped dom
  shaped_by _ of_source = record {
    primitive = (λ e. absurd (checkonly_not_primitive e), λ e. absurd (none-some 0 (sym e)));
    bare = λ e. absurd (none-some 0 (sym e));
    shaped = λ model e. (tmpl r.from, refl, variable_is r.from);
  }
  shaped_by _ of_target = record {
    primitive = (λ e. absurd (enforce_not_primitive e), λ e. absurd (none-some 1 (sym e)));
    bare = λ e. absurd (none-some 1 (sym e));
    shaped = λ model e. (tmpl r.to, refl, variable_is r.to);
  }
  shaped_by _ (of_prefix v c) = record { primitive = (λ e. refl, λ e. refl); bare = λ e. refl; shaped = λ model e. absurd (none-some model e) }

  primitives_apart : (vs : List ℕ) → AllPairs AreOfTwoModels (map primitive_domain vs)
  primitives_apart [] = λ i j d before within. absurd (omega (arith, within))
  primitives_apart (v ∷ vs) = all_pairs_cons AreOfTwoModels (primitive_domain v) (map primitive_domain vs) (λ y c model e f. none-some model e) (primitives_apart vs)

  second_apart : (dom : Dom) → Contains (map primitive_domain r.prefix) dom → AreOfTwoModels (target_domain (root_of r.to) (tmpl r.to)) dom
  second_apart dom c model e f =
      let v = image_of primitive_domain r.prefix dom c in
      none-some model (ap (λ (x : Dom). x.model) v.2 ∙ f)

  first_apart_by : (dom : Dom) → WhichDomain r dom → dom.model ≢ Some 0 → AreOfTwoModels (source_domain (root_of r.from) (tmpl r.from)) dom
  first_apart_by dom which other model e f = other (f ∙ sym e)

  later_models : (dom : Dom) → Contains (target_domain (root_of r.to) (tmpl r.to) ∷ map primitive_domain r.prefix) dom → dom.model ≢ Some 0
  later_models dom (zero, within, is) e = zero_not_one (sym e ∙ sym (ap (λ (x : Dom). x.model) is))
  later_models dom (suc k, within, is) e =
      let v = image_of primitive_domain r.prefix dom (k, omega (arith, within), is) in
      none-some 0 (ap (λ (x : Dom). x.model) v.2 ∙ e)

  two_models : AllPairs AreOfTwoModels (domains_of r)
  two_models =
      all_pairs_cons AreOfTwoModels (source_domain (root_of r.from) (tmpl r.from)) (target_domain (root_of r.to) (tmpl r.to) ∷ map primitive_domain r.prefix)
      (λ dom c model e f. later_models dom c (f ∙ sym e))
      (all_pairs_cons AreOfTwoModels (target_domain (root_of r.to) (tmpl r.to)) (map primitive_domain r.prefix) second_apart (primitives_apart r.prefix))

  no_primitive_variables : (vs : List ℕ) → flat_map domain_variables (map primitive_domain vs) ≡ []
  no_primitive_variables [] = refl
  no_primitive_variables (v ∷ vs) = no_primitive_variables vs

  variables_of_domains : flat_map domain_variables (domains_of r) ≡ roots_of r.from ++ roots_of r.to
  variables_of_domains =
      ap (λ vs. vs ++ (template_variables (tmpl r.to) ++ flat_map domain_variables (map primitive_domain r.prefix))) (variables_are r.from)
      ∙ ap (λ vs. roots_of r.from ++ (vs ++ flat_map domain_variables (map primitive_domain r.prefix))) (variables_are r.to)
      ∙ ap (λ vs. roots_of r.from ++ (roots_of r.to ++ vs)) (no_primitive_variables r.prefix)
      ∙ ap (λ vs. roots_of r.from ++ vs) (append-nil (roots_of r.to))

  declared_by : (m : ℕ) (which : Pattern × Spot) → pattern_ok r m which ≡ true → IsDeclared rel m m (tmpl which.0)
  declared_by m which ok =
      let kind : is_kind r (root_of which.0) (objects m (class_of_pattern which.0)) ≡ true =
      second_true (is_class m (class_of_pattern which.0)) (is_kind r (root_of which.0) (objects m (class_of_pattern which.0)))
      (first_true (is_class m (class_of_pattern which.0) && is_kind r (root_of which.0) (objects m (class_of_pattern which.0))) (list_all (part_ok r m (class_of_pattern which.0)) (parts_in which.0)) ok) in
      let h = has_kind r (root_of which.0) (objects m (class_of_pattern which.0)) kind in
      record {
        var = var_with h.name (objects m (class_of_pattern which.0));
        found = ap (slice_get rel.vars) (variable_is which.0) ∙ h.found;
        class = ap (types.Class m) (sym (class_is which.0));
        of_model = refl;
      }

  declared_placed : patterns_ok r ≡ true → (model meta : ℕ) (t : Tmpl) → IsPlaced r model meta t → IsDeclared rel model meta t
  declared_placed ok _ _ _ (in_source which c) =
      declared_by 0 which (all_of (pattern_ok r 0) (standings None r.from) (first_true (list_all (pattern_ok r 0) (standings None r.from)) (list_all (pattern_ok r 1) (standings None r.to)) ok) which c)
  declared_placed ok _ _ _ (in_target which c) =
      declared_by 1 which (all_of (pattern_ok r 1) (standings None r.to) (second_true (list_all (pattern_ok r 0) (standings None r.from)) (list_all (pattern_ok r 1) (standings None r.to)) ok) which c)

  pub domains_meant : patterns_ok r ≡ true → roots_ok r ≡ true → HasDomains program rel
  domains_meant ok apart = record {
    shaped = λ dom c. shaped_by dom (which_domain r dom c);
    models = two_models;
    declared = λ dom d t h. declared_placed ok d.model d.slot.meta t (placed rs r dom d t h);
    templates = subst (AllPairs (λ v w. v ≢ w)) (sym variables_of_domains) (all_apart (roots_of r.from ++ roots_of r.to) apart);
  }

  -- ---- variables

  model_slot : (m : ℕ) → m < 2 → (slot : ModelSlot) × (slice_get main_models m ≡ Some slot) × (slot.meta ≡ m)
  model_slot zero less = (record { name = codes "uml"; meta = 0 }, refl, refl)
  model_slot (suc zero) less = (record { name = codes "rdb"; meta = 1 }, refl, refl)
  model_slot (suc (suc m)) less = absurd (omega (arith, less))

  in_model : (name : List ℕ) (kind : Kind) → ((m c : ℕ) → kind ≡ objects m c → m < 2) → IsInModel program (var_with name kind)
  in_model name texts few = record { object = λ meta c e. absurd (text_is_no_class meta c e); data_value = λ none. refl }
  in_model name (objects m c) few = record {
    object = λ meta d e.
        let s = model_slot m (few m c refl) in
        (m, s.0, refl, s.1, s.2 ∙ same_model m meta (record { 0 = c }) d e);
    data_value = λ none. absurd (none m (record { 0 = c }) refl);
  }

  vars_known : vars_ok r ≡ true → list_all (λ (x : List ℕ × Kind). is_known_kind x.1) r.vars ≡ true
  vars_known ok =
      first_true (list_all (λ (x : List ℕ × Kind). is_known_kind x.1) r.vars) (list_all (λ v. nat_lt v (length r.vars)) r.universal)
      (first_true (list_all (λ (x : List ℕ × Kind). is_known_kind x.1) r.vars && list_all (λ v. nat_lt v (length r.vars)) r.universal) (list_all (λ v. nat_lt v (length r.vars)) r.existential) ok)

  kinds_known : vars_ok r ≡ true → (var : List ℕ × Kind) → Contains r.vars var → (m c : ℕ) → var.1 ≡ objects m c → m < 2
  kinds_known ok var there m c is =
      let known = all_of (λ (x : List ℕ × Kind). is_known_kind x.1) r.vars (vars_known ok) var there in
      ltb-true m 2 (first_true (nat_lt m 2) (nat_lt c (class_count (desc_of m))) (subst (λ k. is_known_kind k ≡ true) is known))

  var_in_model : vars_ok r ≡ true → (var : Var) → Contains rel.vars var → IsInModel program var
  var_in_model ok var there =
      let x = image_of var_of r.vars var there in
      subst (IsInModel program) (sym (var_is x.0) ∙ x.2) (in_model x.0.0 x.0.1 (λ m c is. kinds_known ok x.0 x.1 m c is))

  var_within : (v : ℕ) (var : Var) → slice_get rel.vars v ≡ Some var → v < length r.vars
  var_within v var found = let k = of_kind r v var found in slice_get_within r.vars v (k.name, k.kind) k.plain

  module _ (words : AreStorable r.from) (good : AreGood rs r words) (universal : universal_ok r ≡ true) where
    prefix_not_top : prefix_ok r ≡ true → (v : ℕ) → Contains r.prefix v → r.top ≡ false
    prefix_not_top ok v c = not_true r.top (second_true (is_kind r v texts) (not r.top) (all_of (λ w. is_kind r w texts && not r.top) r.prefix ok v c))

    by_source : (v : ℕ) → (has r.universal v && has (texts_of r.from) v) ≡ true → IsBound program rel v
    by_source v e =
        IsBound.source_item v (source_domain (root_of r.from) (tmpl r.from)) (universal_from rs r words good universal v (first_true (has r.universal v) (has (texts_of r.from) v) e))
        (first_source rs r words) (alone_in_domain r.from (source_domain (root_of r.from) (tmpl r.from)) v refl (text_from r.from v (in_list (texts_of r.from) v (second_true (has r.universal v) (has (texts_of r.from) v) e))))

    by_prefix : prefix_ok r ≡ true → (v : ℕ) → has r.prefix v ≡ true → IsBound program rel v
    by_prefix ok v e = IsBound.primitive v (primitive_domain v) (prefix_not_top ok v (in_list r.prefix v e)) (prefix_there r v (in_list r.prefix v e)) refl refl

    by_target : (v : ℕ) → (not (has r.universal v) && has (texts_of r.to) v) ≡ true → IsBound program rel v
    by_target v e =
        IsBound.target_item v (target_domain (root_of r.to) (tmpl r.to))
        (not_has_universal rs r words good universal v (not_true (has r.universal v) (first_true (not (has r.universal v)) (has (texts_of r.to) v) e)))
        (record { is = target_there r; target = refl })
        (alone_in_domain r.to (target_domain (root_of r.to) (tmpl r.to)) v refl (text_from r.to v (in_list (texts_of r.to) v (second_true (not (has r.universal v)) (has (texts_of r.to) v) e))))

    either : (a b : Bool) → (a || b) ≡ true → (a ≡ true) ⊎ (b ≡ true)
    either true b e = inl refl
    either false b e = inr e

    bound_by : prefix_ok r ≡ true → (v : ℕ) → is_kind r v texts ≡ true → bound_at r v ≡ true → IsBound program rel v
    bound_by ok v text e =
        elim (either (not (is_kind r v texts)) ((has r.universal v && has (texts_of r.from) v) || (has r.prefix v || (not (has r.universal v) && has (texts_of r.to) v))) e) [
          | inl none ↦ absurd (true≢false (sym text ∙ not_true (is_kind r v texts) none))
          | inr some ↦ elim (either (has r.universal v && has (texts_of r.from) v) (has r.prefix v || (not (has r.universal v) && has (texts_of r.to) v)) some) [
            | inl source ↦ by_source v source
            | inr more ↦ elim (either (has r.prefix v) (not (has r.universal v) && has (texts_of r.to) v) more) [ inl prefix ↦ by_prefix ok v prefix | inr target ↦ by_target v target ]
          ]
        ]

    pub variables_meant : vars_ok r ≡ true → prefix_ok r ≡ true → order_ok r ≡ true → bound_ok r ≡ true → HasVariables program rel
    variables_meant vars prefix order bound = record {
      models = λ var c. var_in_model vars var c;
      universal = λ v var found. (λ c. universal_from rs r words good universal v (listed r.universal v c), λ u. in_list r.universal v (universal_has rs r words good universal v u));
      existential = λ v var found. (
        λ c. existential_is rs r words good universal v (var_within v var found) (listed r.existential v c),
        λ none. in_list r.existential v (existential_has rs r words good universal v (var_within v var found) none),
      );
      universal_order = in_order r.universal (first_true (increasing r.universal) (increasing r.existential) order);
      existential_order = in_order r.existential (second_true (increasing r.universal) (increasing r.existential) order);
      bound = λ v d.
          bound_by prefix v (data_is_text r v d) (below_of (bound_at r) (length r.vars) bound v (var_within v d.var d.found));
    }

    -- ---- equations

    no_when_equation : (calls : List Call) (place v : ℕ) (e : Typed) → slice_get (map call_of calls) place ≡ Some (conjuncts.Equation v e) → ⊥
    no_when_equation calls place v e found =
        let call = image_at call_of calls place (conjuncts.Equation v e) found in call_no_equation call.0.number _ v e call.2

    no_when_condition : (calls : List Call) (place : ℕ) (c : Typed) → slice_get (map call_of calls) place ≡ Some (conjuncts.Cond c) → ⊥
    no_when_condition calls place c found = let call = image_at call_of calls place (conjuncts.Cond c) found in call_no_condition call.0.number _ c call.2

    pub whens_meant : HasEquations rel (IsUniversal program rel) rel.whens
    whens_meant = record {
      are = λ place v e found. absurd (no_when_equation r.whens place v e found);
      all = λ place v c e found says data_variable sought free. absurd (no_when_condition r.whens place c found);
    }

    no_condition : (place : ℕ) (c : Typed) → slice_get rel.wheres place ≡ Some (conjuncts.Cond c) → ⊥
    no_condition place c found = let x = image_at conjunct_of r.wheres place (conjuncts.Cond c) found in by x.0 x.2
      where
        by : (x : Clause) → conjunct_of x ≡ conjuncts.Cond c → ⊥
        by (given v prefix name) is = equation_no_condition v (prefixed prefix name) c is
        by (called call) is = call_no_condition call.number (map argument_of call.args) c is

    pub wheres_meant : clauses_ok rs r ≡ true → equations_ok r ≡ true → HasEquations rel (λ v. ¬ IsUniversal program rel v) rel.wheres
    wheres_meant clauses equations = record {
      are = λ place v e found. let x = image_at conjunct_of r.wheres place (conjuncts.Equation v e) found in by place v e x.0 x.1 x.2;
      all = λ place v c e found says data_variable sought free. absurd (no_condition place c found);
    }
      where
        by : (place v : ℕ) (e : Typed) (x : Clause) → slice_get r.wheres place ≡ Some x → conjunct_of x ≡ conjuncts.Equation v e
            → IsDataVariable rel v × (¬ IsUniversal program rel v) × (¬ Names e v) × (¬ IsGivenBefore rel.wheres place v)
        by place v e (called call) found is = absurd (call_no_equation call.number (map argument_of call.args) v e is)
        by place v e (given w prefix name) found is =
            let v_is : w ≡ v = same_subject w v (prefixed prefix name) e is in
            let e_is : prefixed prefix name ≡ e = same_value w v (prefixed prefix name) e is in
            let only = first_only r r.wheres equations place w prefix name found in
            let clause = all_of (clause_ok rs r) r.wheres (second_true (list_all (call_ok rs r) r.whens) (list_all (clause_ok rs r) r.wheres) clauses) (given w prefix name) (contains_at r.wheres place (given w prefix name) found) in (
              text_is_data r v (subst (λ x. is_kind r x texts ≡ true) v_is (first_true (is_kind r w texts) (is_kind r prefix texts) (first_true (is_kind r w texts && is_kind r prefix texts) (is_kind r name texts) clause))),
              not_has_universal rs r words good universal v (subst (λ x. has r.universal x ≡ false) v_is (not_true (has r.universal w) (first_true (not (has r.universal w)) (not (has (prefix ∷ name ∷ []) w)) only.1))),
              λ names. true≢false
                  (sym (names_are (prefix ∷ name ∷ []) (prefixed prefix name) (plain_prefixed prefix name) w (subst (λ x. Names (prefixed prefix name) x) (sym v_is) (subst (λ x. Names x v) (sym e_is) names)))
                  ∙ not_true (has (prefix ∷ name ∷ []) w) (second_true (not (has r.universal w)) (not (has (prefix ∷ name ∷ []) w)) only.1)),
              λ before. let first : place ≡ 0 = only.0 in let less : before.earlier < place = before.before in omega (arith, first, less),
            )

  -- ---- calls

  in_direction_of : (number : ℕ) (callee : Rel) → slice_get program.rels number ≡ Some callee → callee.in_direction ≡ true
  in_direction_of number callee found = let x = image_at rel_of rs number callee found in sym (ap (λ (y : Rel). y.in_direction) x.2)

  pub calls_meant : CallsInDirection program rel
  calls_meant = record { whens = λ number callee c found. in_direction_of number callee found; wheres = λ number callee c found. in_direction_of number callee found }

  pub towards_target : (rel.in_direction ≡ true) ↔ ((dom : Dom) × IsTargetDomain program rel dom)
  towards_target = (λ is. (target_domain (root_of r.to) (tmpl r.to), record { is = target_there r; target = refl }), λ some. refl)

-- ---- strata

stratum_in : (o : Option Relation) (x : Relation) → o ≡ Some x → stratum_of o ≡ x.stratum
stratum_in o x is = ap stratum_of is

module _ (rs : List Relation) (strata : (r : Relation) → Contains rs r → strata_ok rs r ≡ true) where
  when_below : (x : Relation) → Contains rs x → (number : ℕ) → CallsIn (rel_of x).whens number → stratum_of (slice_get rs number) < x.stratum
  when_below x there number (args, c) =
      let call = image_of call_of x.whens (conjuncts.Call number args) c in
      let test = all_of (λ (call : Call). nat_lt (stratum_of (slice_get rs call.number)) x.stratum) x.whens
      (first_true (list_all (λ (call : Call). nat_lt (stratum_of (slice_get rs call.number)) x.stratum) x.whens) (list_all (where_stratum_ok rs x) x.wheres) (strata x there)) call.0 call.1 in
      subst (λ n. stratum_of (slice_get rs n) < x.stratum) (same_number call.0.number number (map argument_of call.0.args) args call.2) (ltb-true (stratum_of (slice_get rs call.0.number)) x.stratum test)

  where_by : (x : Relation) (c : Clause) → where_stratum_ok rs x c ≡ true → (number : ℕ) (args : List Typed) → conjunct_of c ≡ conjuncts.Call number args → stratum_of (slice_get rs number) ≤ x.stratum
  where_by x (given v prefix name) ok number args is = absurd (call_no_equation number args v (prefixed prefix name) (sym is))
  where_by x (called call) ok number args is =
      subst (λ n. stratum_of (slice_get rs n) ≤ x.stratum) (same_number call.number number (map argument_of call.args) args is) (leb-true (stratum_of (slice_get rs call.number)) x.stratum ok)

  where_below : (x : Relation) → Contains rs x → (number : ℕ) → CallsIn (rel_of x).wheres number → stratum_of (slice_get rs number) ≤ x.stratum
  where_below x there number (args, c) =
      let clause = image_of conjunct_of x.wheres (conjuncts.Call number args) c in
      where_by x clause.0
      (all_of (where_stratum_ok rs x) x.wheres (second_true (list_all (λ (call : Call). nat_lt (stratum_of (slice_get rs call.number)) x.stratum) x.whens) (list_all (where_stratum_ok rs x) x.wheres) (strata x there)) clause.0 clause.1)
      number args clause.2

  path_below : (number count : ℕ) → IsCallPath (program_of rs) number count → count ≤ stratum_of (slice_get rs number)
  path_below _ _ (IsCallPath.end number) = omega arith
  path_below _ _ (IsCallPath.by_when number rel callee count found calls path) =
      let x = image_at rel_of rs number rel found in
      let rest = path_below callee count path in
      let less = when_below x.0 (contains_at rs number x.0 x.1) callee (subst (λ (y : Rel). CallsIn y.whens callee) (sym x.2) calls) in
      let same = stratum_in (slice_get rs number) x.0 x.1 in
      omega (arith, rest, less, same)
  path_below _ _ (IsCallPath.by_where number rel callee count found calls path) =
      let x = image_at rel_of rs number rel found in
      let rest = path_below callee count path in
      let less = where_below x.0 (contains_at rs number x.0 x.1) callee (subst (λ (y : Rel). CallsIn y.wheres callee) (sym x.2) calls) in
      let same = stratum_in (slice_get rs number) x.0 x.1 in
      omega (arith, rest, less, same)

  pub stratum_meant : (number : ℕ) (x : Relation) → slice_get rs number ≡ Some x → IsCallPath (program_of rs) number x.stratum → IsStratum (program_of rs) number x.stratum
  stratum_meant number x found reached = record {
    reached = reached;
    greatest = λ count path. let below = path_below number count path in let same = stratum_in (slice_get rs number) x found in omega (arith, below, same);
  }
