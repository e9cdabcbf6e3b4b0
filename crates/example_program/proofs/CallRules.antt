-- E9 and E10: what calls hand on of the target, by the tests.
use Rattle.std.proofs.Common.{◌≡◌, ◌≢◌, ◌<◌, ℕ, zero, suc, Bool, true, false, ◌&&◌, ◌||◌, List, [], ◌∷◌, map, length, Option, None, Some, refl, sym, ap, ◌∙◌, subst, arith, inl, inr, true≢false}
use Rattle.std.specs.Prelude.{◌⊎◌, not, nat_eq, slice_get, Contains}
use Rattle.std.specs.List.{list_all, flat_map}
use Rattle.std.proofs.lemmas.Bool.{eqb-true, eq-eqb, false≢true}
use Rattle.std.proofs.lemmas.Option.{same_Some, none-some}
use Rattle.mof_metamodel.specs.Characters.{is_storable_text}
use Rattle.mof_metamodel.proofs.Facts.{first_true, second_true, nothing_in, only_one, contains_at, contains_map}
use Rattle.mof_metamodel.proofs.PropLemmas.{from_flat_map}
use Rattle.qv_syntax.specs.declared.ty.Ty.{Ty}
use Rattle.qv_syntax.specs.declared.ty.Ty.TheVariants as types
use Rattle.qv_syntax.specs.declared.typed.Typed.{Typed}
use Rattle.qv_syntax.specs.declared.typed.Node.TheVariants as nodes
use Rattle.qv_syntax.specs.declared.program.Program.{Program}
use Rattle.qv_syntax.specs.declared.program.Rel.{Rel}
use Rattle.qv_syntax.specs.declared.program.Var.{Var}
use Rattle.qv_syntax.specs.declared.program.Dom.{Dom}
use Rattle.qv_syntax.specs.declared.program.Conj.{Conj}
use Rattle.qv_syntax.specs.declared.program.Conj.TheVariants as conjuncts
use Rattle.qv_syntax.specs.Relations.{IsUniversal, CallsIn}
use Rattle.enforcement_rules.specs.Calls.{IsTargetArgument, IsVariable, IsTaken, HasUnmatchedCall, HasTypes, IsPassedInWhen, IsPassedInWhere, HasWrongArgument}
use Rattle.enforcement_rules.specs.TargetParts.{IsTargetVariable}
use Rattle.ocl_environments.specs.Conformance.{TypeConforms}
use Rattle.example_program.specs.Words.{the_text, the_object, source_domain, target_domain, primitive_domain, class_of, prefixed}
use Rattle.example_program.proofs.Tests.{all_of, image_of, image_at, at_image, has, in_list, listed}
use Rattle.example_program.proofs.Plain.{Kind, texts, objects, Pattern, root_of, class_of_pattern, tmpl, Spot, standings, Argument, object_argument, text_argument, word_argument, prefixed_argument, argument_of, Call, call_of, Clause, given, called, conjunct_of, Relation, domains_of, rel_of, program_of}
use Rattle.example_program.proofs.KindLaws.{metas, same_kinds, HasKind, has_kind, IsOfKind, of_kind, var_with, type_of_kind, model_of_kind}
use Rattle.example_program.proofs.NumberLaws.{good_source, good_target, whole_first}
use Rattle.example_program.proofs.MeaningLaws.{call_no_equation, same_number, same_arguments}
use Rattle.example_program.proofs.WellLaws.{IsTested, when_call_ok, where_clause_ok}
use Rattle.example_program.proofs.RuleTests.{then_second, is_universal_has, text_not_target, source_not_target}
use Rattle.example_program.proofs.PatternRules.{self_conforms, below_classes}
use Rattle.example_program.proofs.Checks.{is_class, is_kind, same_kind, argument_ok, argument_for, arguments_ok, domain_roots, call_to, call_ok, clause_ok, is_top, alone_in, target_argument, taken, is_target_kind, when_ok}

abbrev argument_with : ℕ → Kind → Argument
argument_with v texts = text_argument v
argument_with v (objects m c) = object_argument v m c

module _ (rs : List Relation) (each : (r : Relation) → Contains rs r → IsTested rs r) where
  abbrev program : Program
  program = program_of rs

  -- ---- the root of a target domain is the one target variable among a relation's roots

  target_root : (callee : Relation) → Contains rs callee → is_kind callee (root_of callee.to) (objects 1 (class_of_pattern callee.to)) ≡ true
  target_root callee there = (good_target callee (each callee there).patterns (callee.to, None) (whole_first callee.to)).kind

  source_root : (callee : Relation) → Contains rs callee → is_kind callee (root_of callee.from) (objects 0 (class_of_pattern callee.from)) ≡ true
  source_root callee there = (good_source callee (each callee there).patterns (callee.from, None) (whole_first callee.from)).kind

  prefix_root : (callee : Relation) → Contains rs callee → (v : ℕ) → Contains callee.prefix v → is_kind callee v texts ≡ true
  prefix_root callee there v c = first_true (is_kind callee v texts) (not callee.top) (all_of (λ w. is_kind callee w texts && not callee.top) callee.prefix (each callee there).prefix v c)

  -- which domain has a target variable as its root
  second_place : (callee : Relation) → Contains rs callee → (place : ℕ) (dom : Dom) → slice_get (domains_of callee) place ≡ Some dom → IsTargetVariable program (rel_of callee) dom.root
      → (place ≡ 1) × (target_domain (root_of callee.to) (tmpl callee.to) ≡ dom)
  second_place callee there zero dom found target =
      let is = same_Some (source_domain (root_of callee.from) (tmpl callee.from)) dom found in
      absurd (source_not_target rs callee (each callee there) (root_of callee.from) (class_of_pattern callee.from) (source_root callee there) (subst (λ (d : Dom). IsTargetVariable program (rel_of callee) d.root) (sym is) target))
  second_place callee there (suc zero) dom found target = (refl, same_Some (target_domain (root_of callee.to) (tmpl callee.to)) dom found)
  second_place callee there (suc (suc k)) dom found target =
      let v = image_at primitive_domain callee.prefix k dom found in
      absurd (text_not_target rs callee (each callee there) v.0 (prefix_root callee there v.0 (contains_at callee.prefix k v.0 v.1)) (subst (λ (d : Dom). IsTargetVariable program (rel_of callee) d.root) (sym v.2) target))

  -- ---- arguments

  -- the second argument of a call, and the relation that is called
  record IsSecond (r : Relation) (args : List Argument) (callee : Relation) : Type 0 where
    variable : ℕ
    class : ℕ
    is : slice_get args 1 ≡ Some (object_argument variable 1 class)
    kind : is_kind r variable (objects 1 class) ≡ true
    same : class ≡ class_of_pattern callee.to

  argument_by : (r callee : Relation) (args : List Argument) (a : Argument) → slice_get args 1 ≡ Some a → argument_ok r a (objects 1 (class_of_pattern callee.to)) ≡ true → IsSecond r args callee
  argument_by r callee args (object_argument v m c) is ok =
      let same : objects m c ≡ objects 1 (class_of_pattern callee.to) = same_kinds (objects m c) (objects 1 (class_of_pattern callee.to)) (second_true (is_kind r v (objects m c)) (same_kind (objects m c) (objects 1 (class_of_pattern callee.to))) ok) in
      record {
        variable = v;
        class = class_of_pattern callee.to;
        is = is ∙ ap (λ k. Some (argument_with v k)) same;
        kind = subst (λ k. is_kind r v k ≡ true) same (first_true (is_kind r v (objects m c)) (same_kind (objects m c) (objects 1 (class_of_pattern callee.to))) ok);
        same = refl;
      }
  argument_by r callee args (text_argument v) is ok = absurd (false≢true (second_true (is_kind r v texts) (same_kind texts (objects 1 (class_of_pattern callee.to))) ok))
  argument_by r callee args (word_argument word) is ok = absurd (false≢true (second_true (is_storable_text word) (same_kind texts (objects 1 (class_of_pattern callee.to))) ok))
  argument_by r callee args (prefixed_argument prefix name) is ok =
      absurd (false≢true (second_true (is_kind r prefix texts && is_kind r name texts) (same_kind texts (objects 1 (class_of_pattern callee.to))) ok))

  root_argument : (r callee : Relation) (args : List Argument) (a : Argument) → slice_get args 1 ≡ Some a → (o : Option (List ℕ × Kind)) → slice_get callee.vars (root_of callee.to) ≡ o
      → argument_for r o a ≡ true → HasKind callee (root_of callee.to) (objects 1 (class_of_pattern callee.to)) → IsSecond r args callee
  root_argument r callee args a is None found ok h = absurd (false≢true ok)
  root_argument r callee args a is (Some var) found ok h =
      argument_by r callee args a is
      (subst (λ k. argument_ok r a k ≡ true) (ap (λ (x : List ℕ × Kind). x.1) (same_Some var (h.name, objects 1 (class_of_pattern callee.to)) (sym found ∙ h.plain))) ok)

  second_by : (r callee : Relation) → Contains rs callee → (args : List Argument) → arguments_ok r callee (domain_roots callee) args ≡ true → IsSecond r args callee
  second_by r callee there [] ok = absurd (false≢true ok)
  second_by r callee there (a ∷ []) ok =
      absurd (false≢true (second_true (argument_for r (slice_get callee.vars (root_of callee.from)) a) (arguments_ok r callee (root_of callee.to ∷ callee.prefix) []) ok))
  second_by r callee there (a ∷ b ∷ more) ok =
      let rest = second_true (argument_for r (slice_get callee.vars (root_of callee.from)) a) (arguments_ok r callee (root_of callee.to ∷ callee.prefix) (b ∷ more)) ok in
      root_argument r callee (a ∷ b ∷ more) b refl (slice_get callee.vars (root_of callee.to)) refl
      (first_true (argument_for r (slice_get callee.vars (root_of callee.to)) b) (arguments_ok r callee callee.prefix more) rest) (has_kind callee (root_of callee.to) (objects 1 (class_of_pattern callee.to)) (target_root callee there))

  call_second : (r callee : Relation) (call : Call) → slice_get rs call.number ≡ Some callee → call_ok rs r call ≡ true → IsSecond r call.args callee
  call_second r callee call found ok = second_by r callee (contains_at rs call.number callee found) call.args (subst (λ o. call_to r o call.args ≡ true) found ok)

  -- ---- E10

  passed : (r : Relation) → IsTested rs r → (call : Call) → call_ok rs r call ≡ true → (callee : Rel) (number : ℕ) (args : List Typed) → call_of call ≡ conjuncts.Call number args
      → slice_get program.rels number ≡ Some callee → (place : ℕ) (dom : Dom) (e : Typed) → slice_get callee.domains place ≡ Some dom → IsTargetVariable program callee dom.root
      → slice_get args place ≡ Some e → (c : ℕ) × (c < 7) × HasTypes program (rel_of r) callee dom e (class_of 1 c) (class_of 1 c)
  passed r t call ok callee number args is found place dom e at target argument =
      let x = image_at rel_of rs number callee found in
      let there = contains_at rs number x.0 x.1 in
      let of : slice_get (domains_of x.0) place ≡ Some dom = ap (λ (y : Rel). slice_get y.domains place) x.2 ∙ at in
      let second = second_place x.0 there place dom of (subst (λ (y : Rel). IsTargetVariable program y dom.root) (sym x.2) target) in
      let number_is : call.number ≡ number = same_number call.number number (map argument_of call.args) args is in
      let s = call_second r x.0 call (ap (slice_get rs) number_is ∙ x.1) ok in
      let there_is : slice_get args place ≡ Some (the_object s.variable 1 s.class) =
      ap (λ es. slice_get es place) (sym (same_arguments call.number number (map argument_of call.args) args is)) ∙ ap (slice_get (map argument_of call.args)) second.0
      ∙ at_image argument_of call.args 1 (object_argument s.variable 1 s.class) s.is in
      let e_is : the_object s.variable 1 s.class ≡ e = same_Some (the_object s.variable 1 s.class) e (sym there_is ∙ argument) in
      let h = has_kind r s.variable (objects 1 s.class) s.kind in
      let root = has_kind x.0 (root_of x.0.to) (objects 1 (class_of_pattern x.0.to)) (target_root x.0 there) in (
        s.class,
        subst (λ c. c < 7) (sym s.same) (below_classes (class_of_pattern x.0.to) (good_target x.0 (each x.0 there).patterns (x.0.to, None) (whole_first x.0.to)).class),
        record {
          v = s.variable;
          alone = (class_of 1 s.class, sym e_is);
          var = var_with h.name (objects 1 s.class);
          found = h.found;
          target = refl;
          typed = refl;
          root = var_with root.name (objects 1 (class_of_pattern x.0.to));
          root_found = ap (λ (y : Rel). slice_get y.vars dom.root) (sym x.2) ∙ ap (λ (d : Dom). slice_get (rel_of x.0).vars d.root) (sym second.1) ∙ root.found;
          root_typed = ap (class_of 1) (sym s.same);
        },
      )

  where_call : (r : Relation) → IsTested rs r → (c : Clause) → Contains r.wheres c → (number : ℕ) (args : List Typed) → conjunct_of c ≡ conjuncts.Call number args
      → (call : Call) × (call_ok rs r call ≡ true) × (call_of call ≡ conjuncts.Call number args)
  where_call r t (given v prefix name) there number args is = absurd (call_no_equation number args v (prefixed prefix name) (sym is))
  where_call r t (called call) there number args is = (call, where_clause_ok rs r t.clauses (called call) there, is)

  pub right_arguments : (r : Relation) → IsTested rs r → ¬ HasWrongArgument metas program (rel_of r)
  right_arguments r t (HasWrongArgument.of_when callee dom e a none) =
      let call = image_of call_of r.whens (conjuncts.Call a.number a.args) a.call in
      let p = passed r t call.0 (when_call_ok rs r t.clauses call.0 call.1) callee a.number a.args call.2 a.found a.place dom e a.of a.target a.argument in
      none (record { ty = class_of 1 p.0; types = p.2 })
  right_arguments r t (HasWrongArgument.of_where callee dom e a none) =
      let c = image_of conjunct_of r.wheres (conjuncts.Call a.number a.args) a.call in
      let call = where_call r t c.0 c.1 a.number a.args c.2 in
      let p = passed r t call.0 call.1 callee a.number a.args call.2 a.found a.place dom e a.of a.target a.argument in
      none (record { own = class_of 1 p.0; asked = class_of 1 p.0; types = p.2; conforms = self_conforms p.0 p.1 })

  -- ---- E9

  kind_by : (r : Relation) (v : ℕ) (target : IsTargetVariable program (rel_of r) v) (k : IsOfKind r v target.var) (kind : Kind) → kind ≡ k.kind → is_target_kind (slice_get r.vars v) ≡ true
  kind_by r v target k texts is = absurd (none-some 1 (ap model_of_kind is ∙ ap (λ (x : Var). x.model) k.is ∙ target.target))
  kind_by r v target k (objects m c) is =
      ap is_target_kind (k.plain ∙ ap (λ y. let x : List ℕ × Kind = (k.name, y) in Some x) (sym is)) ∙ eq-eqb m 1 (same_Some m 1 (ap model_of_kind is ∙ ap (λ (x : Var). x.model) k.is ∙ target.target))

  target_kind : (r : Relation) (v : ℕ) → IsTargetVariable program (rel_of r) v → is_target_kind (slice_get r.vars v) ≡ true
  target_kind r v target = let k = of_kind r v target.var target.found in kind_by r v target k k.kind refl

  second_alone : (args : List Argument) (v w c : ℕ) → Contains (target_argument args) v → slice_get args 1 ≡ Some (object_argument w 1 c) → w ≡ v
  second_alone [] v w c among is = absurd (nothing_in v among)
  second_alone (a ∷ []) v w c among is = absurd (nothing_in v among)
  second_alone (a ∷ b ∷ more) v w c among is = only_one w v (subst (λ x. Contains (alone_in x) v) (same_Some b (object_argument w 1 c) is) among)

  callee_of : (r : Relation) (call : Call) (o : Option Relation) → slice_get rs call.number ≡ o → call_to r o call.args ≡ true → (callee : Relation) × (slice_get rs call.number ≡ Some callee)
  callee_of r call None is ok = absurd (false≢true ok)
  callee_of r call (Some callee) is ok = (callee, is)

  last_target : (callee : Relation) → Contains rs callee → (later : ℕ) (other : Dom) → 1 < later → slice_get (domains_of callee) later ≡ Some other → other.root ≢ root_of callee.to
  last_target callee there later other after found same =
      let root = has_kind callee (root_of callee.to) (objects 1 (class_of_pattern callee.to)) (target_root callee there) in
      let place = second_place callee there later other found (record { var = var_with root.name (objects 1 (class_of_pattern callee.to)); found = ap (slice_get (rel_of callee).vars) same ∙ root.found; target = refl }) in
      let one = place.0 in
      omega (arith, one, after)

  taken_by : (r : Relation) → IsTested rs r → (call : Call) → Contains r.whens call → (v : ℕ) → Contains (target_argument call.args) v → IsTaken program (rel_of r).whens v
  taken_by r t call there v among =
      let ok = when_call_ok rs r t.clauses call there in
      let callee = callee_of r call (slice_get rs call.number) refl ok in
      let at = contains_at rs call.number callee.0 callee.1 in
      let s = call_second r callee.0 call callee.1 ok in
      let is : s.variable ≡ v = second_alone call.args v s.variable s.class among s.is in
      let root = has_kind callee.0 (root_of callee.0.to) (objects 1 (class_of_pattern callee.0.to)) (target_root callee.0 at) in
      record {
        called = rel_of callee.0;
        dom = target_domain (root_of callee.0.to) (tmpl callee.0.to);
        e = the_object s.variable 1 s.class;
        argument = record {
          number = call.number;
          args = map argument_of call.args;
          call = contains_map call_of r.whens call there;
          found = at_image rel_of rs call.number callee.0 callee.1;
          place = 1;
          of = refl;
          target = record { var = var_with root.name (objects 1 (class_of_pattern callee.0.to)); found = root.found; target = refl };
          last = λ later other more after found_later argument_later. last_target callee.0 at later other after found_later;
          argument = at_image argument_of call.args 1 (object_argument s.variable 1 s.class) s.is;
        };
        alone = (class_of 1 s.class, ap (λ n. the_object n 1 s.class) is);
      }

  top_callee : (o : Option Relation) (x : Relation) → o ≡ Some x → is_top o ≡ true → x.top ≡ true
  top_callee o x is ok = subst (λ p. is_top p ≡ true) is ok

  pub right_calls : (r : Relation) → IsTested rs r → ¬ HasUnmatchedCall program (rel_of r)
  right_calls r t (HasUnmatchedCall.called number callee (args, c) found none) =
      let call = image_of call_of r.whens (conjuncts.Call number args) c in
      let x = image_at rel_of rs number callee found in
      let top = all_of (λ (y : Call). is_top (slice_get rs y.number)) r.whens
      (first_true (list_all (λ (y : Call). is_top (slice_get rs y.number)) r.whens) (list_all (λ v. not (is_target_kind (slice_get r.vars v)) || has (taken r) v) r.universal) t.when) call.0 call.1 in
      let number_is : call.0.number ≡ number = same_number call.0.number number (map argument_of call.0.args) args call.2 in
      let tops : x.0.top ≡ true = top_callee (slice_get rs call.0.number) x.0 (ap (slice_get rs) number_is ∙ x.1) top in
      none (sym (ap (λ (y : Rel). y.top) x.2) ∙ tops, sym (ap (λ (y : Rel). y.in_direction) x.2))
  right_calls r t (HasUnmatchedCall.variable v u target none) =
      let test = then_second (is_target_kind (slice_get r.vars v)) (has (taken r) v)
      (all_of (λ w. not (is_target_kind (slice_get r.vars w)) || has (taken r) w) r.universal
      (second_true (list_all (λ (y : Call). is_top (slice_get rs y.number)) r.whens) (list_all (λ w. not (is_target_kind (slice_get r.vars w)) || has (taken r) w) r.universal) t.when) v
      (in_list r.universal v (is_universal_has rs r t v u))) (target_kind r v target) in
      let call = from_flat_map (λ (y : Call). target_argument y.args) r.whens v (in_list (taken r) v test) in
      none (taken_by r t call.0 call.1 v call.2)
