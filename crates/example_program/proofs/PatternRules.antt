-- E1 to E4 and E11: what a relation that is told plainly says of the target, by the tests.
use Rattle.std.proofs.Common.{◌≡◌, ◌≢◌, ◌<◌, ℕ, zero, suc, Bool, true, false, ◌&&◌, ◌||◌, List, [], ◌∷◌, map, length, Option, None, Some, refl, sym, ap, ◌∙◌, subst, arith, inl, inr, true≢false}
use Rattle.std.specs.Prelude.{◌⊎◌, not, nat_eq, nat_lt, slice_get, Contains}
use Rattle.std.specs.List.{list_all, list_any}
use Rattle.std.proofs.lemmas.Bool.{eqb-true, ltb-true, false≢true}
use Rattle.std.proofs.lemmas.Option.{same_Some, none-some, slice_get-get_or}
use Rattle.mof_metamodel.specs.declared.desc.ClassId.{ClassId}
use Rattle.mof_metamodel.specs.declared.desc.PropId.{PropId}
use Rattle.mof_metamodel.specs.declared.desc.PropType.TheVariants as props
use Rattle.mof_metamodel.specs.Characters.{is_storable_text}
use Rattle.mof_metamodel.specs.Metamodels.{class_count, class_at, type_of}
use Rattle.mof_metamodel.proofs.Facts.{first_true, second_true, nothing_in, contains_map}
use Rattle.qv_syntax.specs.declared.ty.Ty.{Ty}
use Rattle.qv_syntax.specs.declared.ty.Ty.TheVariants as types
use Rattle.qv_syntax.specs.declared.typed.Typed.{Typed}
use Rattle.qv_syntax.specs.declared.program.Program.{Program}
use Rattle.qv_syntax.specs.declared.program.Rel.{Rel}
use Rattle.qv_syntax.specs.declared.program.Var.{Var}
use Rattle.qv_syntax.specs.declared.program.Dom.{Dom}
use Rattle.qv_syntax.specs.declared.program.Marker.TheVariants as markers
use Rattle.qv_syntax.specs.declared.program.Tmpl.{Tmpl, out-Tmpl}
use Rattle.qv_syntax.specs.declared.program.Item.{Item}
use Rattle.qv_syntax.specs.declared.program.ItemValue.TheVariants as items
use Rattle.qv_syntax.specs.declared.program.Conj.{Conj}
use Rattle.qv_syntax.specs.Parts.{Names, HasItem}
use Rattle.qv_syntax.specs.Relations.{IsTargetDomain, IsUniversal}
use Rattle.ocl_environments.specs.Environments.{class_of as class_of_type}
use Rattle.ocl_environments.specs.Conformance.{ConformsBy, TypeConforms}
use Rattle.enforcement_rules.specs.declared.standing.Place.{Place}
use Rattle.enforcement_rules.specs.Expressions.{IsAlone, IsAsked, IsArgument, IsConjunct, IsObjectPlace, IsDataPlace, IsExpressionOf, HasTargetExtent, TouchesTarget}
use Rattle.enforcement_rules.specs.KnownVariables.{NamesOf, IsKnown, HasUndeterminedData}
use Rattle.enforcement_rules.specs.Patterns.{IsUnmarked, IsOverKnown, IsSettledConjunct, FitsProperty, IsSettledItem, HasUnsettledPart, IsHandedOn, HasConcreteTemplate, HasUnmadeObject}
use Rattle.enforcement_rules.specs.TargetParts.{IsObjectVariable, IsTargetVariable, IsTargetTemplate}
use Rattle.enforcement_rules.proofs.ClassLaws.{class_of_class}
use Rattle.example_models.specs.RdbTable.{rdb_desc}
use Rattle.example_program.specs.Words.{text, the_text, prefixed, target_domain, class_of}
use Rattle.example_program.proofs.Tests.{zero_not_one, all_of, image_of, has, in_list, listed, not_true}
use Rattle.example_program.proofs.Plain.{Kind, texts, objects, Pattern, root_of, class_of_pattern, tmpl, Part, a_text, a_word, an_object, item_of, parts_in, Spot, standings, Argument, object_argument, text_argument, word_argument, prefixed_argument, argument_of, names_of, Call, call_of, Clause, given, called, conjunct_of, Relation, rel_of, program_of}
use Rattle.example_program.proofs.ExpressionLaws.{IsPlain, plain_variable, plain_text, plain_prefixed, argument_plain, is_good, names_are, no_extent, no_query}
use Rattle.example_program.proofs.StandingLaws.{variable_is, class_is, IsAmong, place_of}
use Rattle.example_program.proofs.PatternLaws.{item_is}
use Rattle.example_program.proofs.KindLaws.{metas, HasKind, has_kind, IsOfKind, of_kind, var_with, text_is_no_class, data_is_text, text_is_data}
use Rattle.example_program.proofs.DomainLaws.{WhichDomain, of_source, of_target, of_prefix, which_domain, target_there, IsValue, a_variable, a_literal, IsItemIn, item_expression}
use Rattle.example_program.proofs.UniversalLaws.{names_itself}
use Rattle.example_program.proofs.MeaningLaws.{first_only}
use Rattle.example_program.proofs.NumberLaws.{IsGoodTemplate, good_source, good_target}
use Rattle.example_program.proofs.TypeLaws.{object_prop, inner_class}
use Rattle.example_program.proofs.WellLaws.{IsTested, storable_words, IsFit, call_fits, fit_is_good, when_call_ok, where_clause_ok}
use Rattle.example_program.proofs.RuleTests.{some_of, either, then_second, is_universal_has, has_is_universal, none_universal_has, has_none_universal, rest_existential, within, text_not_target, text_not_object, which_target, target_template, template_there, prefixed_names, known_is, word_storable}
use Rattle.example_program.proofs.Checks.{desc_of, is_class, is_kind, same_kind, equations_in, argument_ok, clause_ok, call_ok, part_ok, is_known, known_part, known_ok, is_concrete, objects_ok}

-- a class of the target conforms to itself
pub self_conforms : (c : ℕ) → c < 7 → TypeConforms metas (class_of 1 c) (class_of 1 c)
self_conforms c less =
    subst (λ o. ConformsBy metas (class_of 1 c) (class_of 1 c) o o) (sym (class_of_class 1 (record { 0 = c }))) (refl, (omega arith, less, ([], refl)))

pub below_classes : (c : ℕ) → is_class 1 c ≡ true → c < 7
below_classes c ok = ltb-true c 7 (second_true (nat_lt 1 2) (nat_lt c 7) ok)

module _ (rs : List Relation) (r : Relation) (t : IsTested rs r) where
  abbrev program : Program
  program = program_of rs

  abbrev rel : Rel
  rel = rel_of r

  -- ---- E1

  unmarked_by : (dom : Dom) → WhichDomain r dom → dom.model ≡ Some 1 → ¬ (dom.marker ≢ markers.Enforce)
  unmarked_by _ of_source e other = zero_not_one e
  unmarked_by _ of_target e other = other refl
  unmarked_by _ (of_prefix v c) e other = none-some 1 e

  pub is_marked : ¬ IsUnmarked program rel
  is_marked u = unmarked_by u.dom (which_domain r u.dom u.of.is) u.of.target u.other

  -- ---- E2: each expression is plain

  pub record IsTold (e : Typed) : Type 0 where
    pub names : List ℕ
    pub plain : IsPlain names e

  value_told : (p : Pattern) → ((which : Pattern × Spot) (prop : ℕ) (word : List ℕ) → Contains (standings None p) which → Contains (parts_in which.0) (a_word prop word) → is_storable_text word ≡ true)
      → (e : Typed) → IsItemIn p e → IsTold e
  value_told p words e i = by i.value
    where
      by : IsValue e i.part → IsTold e
      by (a_variable prop v is same) = record { names = v ∷ []; plain = subst (IsPlain (v ∷ [])) same (plain_variable (v ∷ []) types.Str v (listed (v ∷ []) v (0, omega arith, refl))) }
      by (a_literal prop word is same) =
          record { names = []; plain = subst (IsPlain []) same (plain_text [] word (words i.which prop word i.among (subst (λ x. Contains (parts_in i.which.0) x) is i.has))) }

  pub item_told : (e : Typed) → IsItemIn r.from e ⊎ IsItemIn r.to e → IsTold e
  item_told e (inl i) = value_told r.from (storable_words r t.patterns) e i
  item_told e (inr i) = value_told r.to (word_storable rs r t) e i

  pub argument_told : (call : Call) → call_ok rs r call ≡ true → (e : Typed) → Contains (map argument_of call.args) e → IsTold e
  argument_told call ok e c =
      let a = image_of argument_of call.args e c in
      record { names = names_of a.0; plain = subst (IsPlain (names_of a.0)) a.2 (argument_plain a.0 (fit_is_good r a.0 (call_fits rs r call ok a.0 a.1))) }

  -- what stands in a conjunct
  data IsIn (c : Conj) : Type 0 where
    a_call : (call : Call) → call_ok rs r call ≡ true → call_of call ≡ c → IsIn c
    an_equation : (v prefix name : ℕ) → Contains r.wheres (given v prefix name) → conjunct_of (given v prefix name) ≡ c → IsIn c

  clause_in : (x : Clause) (c : Conj) → Contains r.wheres x → conjunct_of x ≡ c → IsIn c
  clause_in (given v prefix name) c there is = an_equation v prefix name there is
  clause_in (called call) c there is = a_call call (where_clause_ok rs r t.clauses (called call) there) is

  in_conjunct : (c : Conj) → IsConjunct rel c → IsIn c
  in_conjunct c (IsConjunct.of_when there) = let call = image_of call_of r.whens c there in a_call call.0 (when_call_ok rs r t.clauses call.0 call.1) call.2
  in_conjunct c (IsConjunct.of_where there) = let x = image_of conjunct_of r.wheres c there in clause_in x.0 c x.1 x.2

  asked_told : (c : Conj) (e : Typed) → IsIn c → IsAsked c e → IsTold e
  asked_told c e (a_call call ok is) asked = absurd (subst (λ x. IsAsked x e) (sym is) asked)
  asked_told c e (an_equation v prefix name there is) asked =
      record { names = prefix ∷ name ∷ []; plain = subst (IsPlain (prefix ∷ name ∷ [])) (subst (λ x. IsAsked x e) (sym is) asked) (plain_prefixed prefix name) }

  handed_told : (c : Conj) (e : Typed) → IsIn c → IsArgument c e → IsTold e
  handed_told c e (a_call call ok is) among = argument_told call ok e (subst (λ x. IsArgument x e) (sym is) among)
  handed_told c e (an_equation v prefix name there is) among = absurd (subst (λ x. IsArgument x e) (sym is) among)

  told : (e : Typed) → IsExpressionOf rel e → IsTold e
  told e (IsExpressionOf.in_data place) = asked_told place.c e (in_conjunct place.c place.of) place.asked
  told e (IsExpressionOf.of_object (IsObjectPlace.item dom c is)) = item_told e (item_expression r dom e c is)
  told e (IsExpressionOf.of_object (IsObjectPlace.argument c there among)) = handed_told c e (in_conjunct c there) among

  -- the variables of a name behind a prefix are texts
  name_texts : (prefix name v : ℕ) → is_kind r prefix texts ≡ true → is_kind r name texts ≡ true → Names (prefixed prefix name) v → is_kind r v texts ≡ true
  name_texts prefix name v a b names =
      elim (prefixed_names rs r t prefix name v names) [ inl is ↦ subst (λ x. is_kind r x texts ≡ true) is a | inr is ↦ subst (λ x. is_kind r x texts ≡ true) is b ]

  data_apart : (c : Conj) (e : Typed) (v : ℕ) → IsIn c → IsAsked c e → Names e v → ¬ IsTargetVariable program rel v
  data_apart c e v (a_call call ok is) asked names target = subst (λ x. IsAsked x e) (sym is) asked
  data_apart c e v (an_equation w prefix name there is) asked names target =
      let clause = where_clause_ok rs r t.clauses (given w prefix name) there in
      let same : prefixed prefix name ≡ e = subst (λ x. IsAsked x e) (sym is) asked in
      text_not_target rs r t v
      (name_texts prefix name v (second_true (is_kind r w texts) (is_kind r prefix texts) (first_true (is_kind r w texts && is_kind r prefix texts) (is_kind r name texts) clause))
      (second_true (is_kind r w texts && is_kind r prefix texts) (is_kind r name texts) clause) (subst (λ x. Names x v) (sym same) names))
      target

  text_nameless : (word : List ℕ) → is_storable_text word ≡ true → (v : ℕ) → ¬ Names (text word) v
  text_nameless word ok v names = false≢true (names_are [] (text word) (plain_text [] word ok) v names)

  argument_apart : (a : Argument) → IsFit r a → (e : Typed) → argument_of a ≡ e → (v : ℕ) → ¬ IsAlone e → Names e v → ¬ IsTargetVariable program rel v
  argument_apart (object_argument w m c) fit e is v lone names target = lone (class_of m c, w, sym is)
  argument_apart (text_argument w) fit e is v lone names target = lone (types.Str, w, sym is)
  argument_apart (word_argument word) fit e is v lone names target =
      text_nameless word (first_true (is_storable_text word) (same_kind texts fit.kind) fit.ok) v (subst (λ x. Names x v) (sym is) names)
  argument_apart (prefixed_argument prefix name) fit e is v lone names target =
      let both = first_true (is_kind r prefix texts && is_kind r name texts) (same_kind texts fit.kind) fit.ok in
      text_not_target rs r t v
      (name_texts prefix name v (first_true (is_kind r prefix texts) (is_kind r name texts) both) (second_true (is_kind r prefix texts) (is_kind r name texts) both) (subst (λ x. Names x v) (sym is) names)) target

  item_apart : (p : Pattern) → ((which : Pattern × Spot) (prop : ℕ) (word : List ℕ) → Contains (standings None p) which → Contains (parts_in which.0) (a_word prop word) → is_storable_text word ≡ true)
      → (e : Typed) → IsItemIn p e → (v : ℕ) → ¬ IsAlone e → ¬ Names e v
  item_apart p words e i v lone names = by i.value
    where
      by : IsValue e i.part → ⊥
      by (a_variable prop w is same) = lone (types.Str, w, sym same)
      by (a_literal prop word is same) = text_nameless word (words i.which prop word i.among (subst (λ x. Contains (parts_in i.which.0) x) is i.has)) v (subst (λ x. Names x v) (sym same) names)

  handed_apart : (c : Conj) (e : Typed) (v : ℕ) → IsIn c → IsArgument c e → ¬ IsAlone e → Names e v → ¬ IsTargetVariable program rel v
  handed_apart c e v (a_call call ok is) among lone names target =
      let a = image_of argument_of call.args e (subst (λ x. IsArgument x e) (sym is) among) in
      argument_apart a.0 (call_fits rs r call ok a.0 a.1) e a.2 v lone names target
  handed_apart c e v (an_equation w prefix name there is) among lone names target = subst (λ x. IsArgument x e) (sym is) among

  object_apart : (e : Typed) (v : ℕ) → IsObjectPlace rel e → ¬ IsAlone e → Names e v → ¬ IsTargetVariable program rel v
  object_apart e v (IsObjectPlace.item dom c is) lone names target =
      elim (item_expression r dom e c is) [ inl i ↦ item_apart r.from (storable_words r t.patterns) e i v lone names | inr i ↦ item_apart r.to (word_storable rs r t) e i v lone names ]
  object_apart e v (IsObjectPlace.argument c there among) lone names target = handed_apart c e v (in_conjunct c there) among lone names target

  pub keeps_off : ¬ TouchesTarget program rel
  keeps_off (TouchesTarget.in_data e v place names target) = data_apart place.c e v (in_conjunct place.c place.of) place.asked names target
  keeps_off (TouchesTarget.not_alone e v place lone names target) = object_apart e v place lone names target
  keeps_off (TouchesTarget.extent e is extent) = let x = told e is in no_extent x.names e x.plain extent.ty extent.model extent.class extent.within
  keeps_off (TouchesTarget.query e q is calls reads) = let x = told e is in no_query x.names e x.plain q calls

  -- ---- E3

  settled_clause : (x : Clause) → Contains r.wheres x → IsSettledConjunct program rel (conjunct_of x)
  settled_clause (called call) there = tt
  settled_clause (given v prefix name) there =
      let clause = where_clause_ok rs r t.clauses (given v prefix name) there in (
        text_is_data r v (first_true (is_kind r v texts) (is_kind r prefix texts) (first_true (is_kind r v texts && is_kind r prefix texts) (is_kind r name texts) clause)),
        given_existential r.wheres t.equations v prefix name there,
      )
    where
      given_existential : (cs : List Clause) → equations_in r cs ≡ true → (v prefix name : ℕ) → Contains cs (given v prefix name) → ¬ IsUniversal program rel v
      given_existential cs e v prefix name (place, below, is) =
          let only = first_only r cs e place v prefix name (slice_get-get_or cs place (given v prefix name) below ∙ ap (λ x. Some x) is) in
          has_none_universal rs r t v (not_true (has r.universal v) (first_true (not (has r.universal v)) (not (has (prefix ∷ name ∷ []) v)) only.1))

  over_known : (which : Pattern × Spot) → Contains (standings None r.to) which → (part : Part) → Contains (parts_in which.0) part → known_part r part ≡ true
  over_known which among part c =
      all_of (known_part r) (parts_in which.0)
      (all_of (λ (x : Pattern × Spot). list_all (known_part r) (parts_in x.0)) (standings None r.to)
      (first_true (list_all (λ (x : Pattern × Spot). list_all (known_part r) (parts_in x.0)) (standings None r.to)) (list_all (λ v. not (is_kind r v texts) || is_known r v) r.existential) t.known)
      which among)
      part c

  settled_part : (which : Pattern × Spot) → Contains (standings None r.to) which → (part : Part) → Contains (parts_in which.0) part → IsSettledItem metas program rel (item_of part)
  settled_part which among (a_text prop v) c =
      IsSettledItem.data_value (the_text v) refl (λ m d. text_is_no_class m d)
      (λ w names. subst (IsKnown program rel) (names_itself v w names.names) (known_is rs r t v (over_known which among (a_text prop v) c)))
  settled_part which among (a_word prop word) c =
      IsSettledItem.data_value (text word) refl (λ m d. text_is_no_class m d) (λ w names. absurd (text_nameless word (word_storable rs r t which prop word among c) w names.names))
  settled_part which among (an_object prop q) c =
      let good = good_target r t.patterns which among in
      IsSettledItem.nested (tmpl q) refl (record {
        of = props.Class (record { 0 = class_of_pattern q });
        typed = object_prop r 1 (class_of_pattern which.0) prop q (good.parts (an_object prop q) c);
        conforms = subst (λ d. TypeConforms metas (types.Class 1 d) (class_of 1 (class_of_pattern q))) (sym (class_is q)) (self_conforms (class_of_pattern q) (below_classes (class_of_pattern q) (inner_class r 1 (class_of_pattern which.0) prop q (good.parts (an_object prop q) c))));
      })

  unsettled : (which : Pattern × Spot) → Contains (standings None r.to) which → (s : Tmpl) → tmpl which.0 ≡ s → (item : Item) → HasItem s item → IsSettledItem metas program rel item
  unsettled which among s is item has =
      let part = item_is which.0 item (subst (λ x. HasItem x item) (sym is) has) in
      subst (IsSettledItem metas program rel) part.2 (settled_part which among part.0 part.1)

  pub all_settled : ¬ HasUnsettledPart metas program rel
  all_settled (HasUnsettledPart.conjunct c there none) =
      let x = image_of conjunct_of r.wheres c there in
      none (subst (IsSettledConjunct program rel) x.2 (settled_clause x.0 x.1))
  all_settled (HasUnsettledPart.item s at item stands has none) =
      let w = target_template rs r t s at stands in
      none (unsettled w.which w.among s w.is item has)

  -- ---- E4

  concrete_by : (v : ℕ) → is_concrete r v ≡ true → HasConcreteTemplate metas program rel v
  concrete_by v e =
      let w = some_of (λ (which : Pattern × Spot). nat_eq (root_of which.0) v && not (class_at rdb_desc (class_of_pattern which.0)).is_abstract) (standings None r.to) e in
      let same : root_of w.0.0 ≡ v = eqb-true (root_of w.0.0) v (first_true (nat_eq (root_of w.0.0) v) (not (class_at rdb_desc (class_of_pattern w.0.0)).is_abstract) w.2) in
      let h = has_kind r (root_of w.0.0) (objects 1 (class_of_pattern w.0.0)) (good_target r t.patterns w.0 w.1).kind in
      record {
        of_target = subst (IsTargetVariable program rel) same (record { var = var_with h.name (objects 1 (class_of_pattern w.0.0)); found = h.found; target = refl });
        t = tmpl w.0.0;
        at = place_of w.0.1;
        is = template_there rs r t w.0 w.1;
        var = variable_is w.0.0 ∙ same;
        concrete = subst (λ c. (class_at rdb_desc c.0).is_abstract ≡ false) (sym (class_is w.0.0))
            (not_true (class_at rdb_desc (class_of_pattern w.0.0)).is_abstract (second_true (nat_eq (root_of w.0.0) v) (not (class_at rdb_desc (class_of_pattern w.0.0)).is_abstract) w.2));
      }

  handed_by : (v : ℕ) → (not r.top && nat_eq (root_of r.to) v) ≡ true → IsHandedOn program rel v
  handed_by v e = record {
    called = not_true r.top (first_true (not r.top) (nat_eq (root_of r.to) v) e);
    dom = target_domain (root_of r.to) (tmpl r.to);
    of = record { is = target_there r; target = refl };
    root = eqb-true (root_of r.to) v (second_true (not r.top) (nat_eq (root_of r.to) v) e);
  }

  made_by : (v : ℕ) → is_kind r v texts || ((not r.top && nat_eq (root_of r.to) v) || is_concrete r v) ≡ true → IsObjectVariable rel v → ¬ IsHandedOn program rel v → ¬ HasConcreteTemplate metas program rel v → ⊥
  made_by v e object own unmade =
      elim (either (is_kind r v texts) ((not r.top && nat_eq (root_of r.to) v) || is_concrete r v) e) [
        | inl text ↦ text_not_object rs r t v text object
        | inr more ↦ elim (either (not r.top && nat_eq (root_of r.to) v) (is_concrete r v) more) [ inl handed ↦ own (handed_by v handed) | inr concrete ↦ unmade (concrete_by v concrete) ]
      ]

  pub all_made : ¬ HasUnmadeObject metas program rel
  all_made h =
      made_by h.v
      (all_of (λ v. is_kind r v texts || ((not r.top && nat_eq (root_of r.to) v) || is_concrete r v)) r.existential t.objects h.v
      (in_list r.existential h.v (rest_existential rs r t h.v (within rs r t h.v h.object.var h.object.found) h.existential)))
      h.object h.own h.unmade

  -- ---- E11

  pub all_determined : ¬ HasUndeterminedData program rel
  all_determined h =
      h.unknown
      (known_is rs r t h.v
      (then_second (is_kind r h.v texts) (is_known r h.v)
      (all_of (λ v. not (is_kind r v texts) || is_known r v) r.existential
      (second_true (list_all (λ (x : Pattern × Spot). list_all (known_part r) (parts_in x.0)) (standings None r.to)) (list_all (λ v. not (is_kind r v texts) || is_known r v) r.existential) t.known)
      h.v
      (in_list r.existential h.v (rest_existential rs r t h.v (within rs r t h.v h.data_variable.var h.data_variable.found) h.existential)))
      (data_is_text r h.v h.data_variable)))
