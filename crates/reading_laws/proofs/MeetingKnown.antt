-- What is known in an entry, and as it is read over the models.
use Rattle.std.specs.Prelude.{◌≡◌, ◌≢◌, ◌⊎◌, ◌<◌, ◌≤◌, ℕ, zero, suc, true, false, not, List, map, length, Option, None, Some, slice_get, Contains}
use Rattle.std.specs.Option.{option_map, option_and_then, option_or}
use Rattle.std.proofs.Common.{refl, sym, ap, subst, ◌∙◌, arith, inl, inr, eq-eqb}
use Rattle.std.proofs.lemmas.Bool.{true≢false, cases_lt}
use Rattle.std.proofs.lemmas.List.{get_or_past}
use Rattle.std.proofs.lemmas.List.FromFn.{get_or-map-range_with_len}
use Rattle.mof_metamodel.specs.declared.desc.MetaDesc.{MetaDesc}
use Rattle.mof_metamodel.specs.declared.desc.PropId.{PropId}
use Rattle.object_tables.specs.Models.{ModelData}
use Rattle.object_tables.proofs.SlotLemmas.{Contains-to_filter}
use Rattle.qv_syntax.specs.declared.ty.Ty.{Ty}
use Rattle.qv_syntax.specs.declared.ty.Ty.TheVariants as types
use Rattle.mof_metamodel.specs.declared.desc.ClassId.{ClassId}
use Rattle.qv_syntax.specs.declared.typed.Typed.{Typed}
use Rattle.qv_syntax.specs.declared.program.Program.{Program}
use Rattle.qv_syntax.specs.declared.program.Rel.{Rel}
use Rattle.qv_syntax.specs.declared.program.Var.{Var}
use Rattle.qv_syntax.specs.declared.program.Conj.TheVariants as conjuncts
use Rattle.qv_syntax.specs.Relations.{IsDataVariable}
use Rattle.qvtr_semantics.specs.declared.datum.Datum.{Datum}
use Rattle.qvtr_semantics.specs.declared.out.Out.{Out}
use Rattle.qvtr_semantics.specs.declared.out.Out.TheVariants as outs
use Rattle.qvtr_semantics.specs.Outs.{datum_of, all_given}
use Rattle.qvtr_semantics.specs.Expressions.{Scope, value, variable, scope_of, bound_value, value_for}
use Rattle.qvtr_semantics.specs.Templates.{Values}
use Rattle.qvtr_semantics.specs.Bindings.{is_model}
use Rattle.template_match.specs.Sources.{is_of_target, is_target_variable, source_variables}
use Rattle.template_match.proofs.SideLaws.{Valued, valued}
use Rattle.mof_metamodel.proofs.Facts.{contains_at}
use Rattle.evaluation_laws.proofs.SlotLaws.{variable_value}
use Rattle.enforcement_rules.specs.Rules.{Breaks}
use Rattle.repair_semantics.specs.declared.term.Term.{Term}
use Rattle.repair_semantics.specs.declared.term.TermValue.{TermValue}
use Rattle.repair_semantics.specs.declared.term.TermValue.TheVariants as values
use Rattle.repair_semantics.specs.Terms.{datum_in}
use Rattle.repair_semantics.specs.EntryValues.{TermValues, value_of, data_in, given_out, Known}
use Rattle.repair_semantics.specs.TargetItems.{TargetItem, class_in, class_of_variable, key_of, target_items}
use Rattle.repair_semantics.specs.Making.{variables, equation_of, by_equation, scope_within, entry_scope, key_value, keyed, term_by, made_term, value_or_datum, values_within, entry_known}
use Rattle.repair_semantics.specs.Unmet.{is_unmet}
use Rattle.repair_semantics.specs.Entries.{TermSource}
use Rattle.enforceable_sources.proofs.EnforceableLaws.{enforceable_hands_on}
use Rattle.entry_sources.proofs.MakingLaws.{scope_same as fine_scope}
use Rattle.source_laws.specs.SourceValues.{HasNoTarget}
use Rattle.source_laws.specs.SourceRelations.{KeepsToSources, NamesSources}
use Rattle.source_laws.specs.TargetRule.{IsExpressionOf, HandsTargetOn}
use Rattle.source_laws.proofs.QueryLaws.{scope_alike}
use Rattle.source_laws.proofs.RuleLaws.{rule_keeps}
use Rattle.source_laws.proofs.BindingLaws.{found_within}
use Rattle.reading_laws.specs.Readings.{Numbering, IsReading, AreOver, HasTermsAmong, Reads}
use Rattle.reading_laws.specs.Roots.{HasRootsOf}
use Rattle.reading_laws.proofs.MeetingValues.{KindOf, kind_of, nothing_some, no_term, data_at, datum_from, datum_to, within_terms, read_datum}
use Rattle.std.proofs.lemmas.Option.{same_Some}
use Rattle.reading_laws.proofs.MeetingObjects.{class_or_data}
use Rattle.reading_laws.proofs.MeetingEntries.{term_is_target, datum_is_source}
use Rattle.reading_laws.proofs.MeetingTypes.{at_scope, length_map, length_variables, equation_found, target_root_is, have, datum_universal, scope_apart, length_within}

-- ---- values of variables

pub at_variable : (rel : Rel) (f : ℕ → Option TermValue) (v : ℕ) → v < length rel.vars → value_of (map f (variables rel)) v ≡ f v
at_variable rel f v below = get_or-map-range_with_len f 0 (length rel.vars) v v None below (omega arith)

module _ (program : Program) (models : List ModelData) (rel : Rel) (its : List TargetItem) (scope : Scope) (before : TermValues) where
  abbrev round : ℕ → TermValues
  round n = values_within program models rel its scope before n

  -- a value that was there before stays
  pub value_stays : (n v : ℕ) (x : TermValue) → v < length rel.vars → value_of before v ≡ Some x → value_of (round n) v ≡ Some x
  value_stays zero v x below h = h
  value_stays (suc n) v x below h =
      at_variable rel (λ w. option_or (value_of before w) (made_term program models rel its (record { values = round n; scope = scope }) w)) v below
      ∙ ap (λ o. option_or o (made_term program models rel its (record { values = round n; scope = scope }) v)) h

  pub length_round : length before ≡ length rel.vars → (n : ℕ) → length (round n) ≡ length rel.vars
  length_round long zero = long
  length_round long (suc n) =
      length_map (λ w. option_or (value_of before w) (made_term program models rel its (record { values = round n; scope = scope }) w)) (variables rel) ∙ length_variables rel

  -- another one is a term, of a variable that has a class
  pub record IsMade (v : ℕ) (x : TermValue) : Type 0 where
    pub class : ℕ
    pub class_is : class_of_variable rel v ≡ Some class
    pub t : Term
    pub is : x ≡ values.Term t

  keyed_is : (class : ℕ) (xs : List TermValue) → (t : Term) × (keyed class xs ≡ values.Term t)
  keyed_is class xs = (_, refl)

  made_by_keys : (class : ℕ) (x : TermValue) (o : Option (List TermValue)) → option_map (keyed class) o ≡ Some x → (t : Term) × (x ≡ values.Term t)
  made_by_keys class x None h = absurd (nothing_some x h)
  made_by_keys class x (Some xs) h = let (t, is) = keyed_is class xs in (t, sym (same_Some (keyed class xs) x h) ∙ is)

  made_by_key : (k : Known) (v class : ℕ) (x : TermValue) (o : Option (List PropId)) → option_and_then (λ props. option_map (keyed class) (all_given (map (key_value program models its k v) props))) o ≡ Some x
      → (t : Term) × (x ≡ values.Term t)
  made_by_key k v class x None h = absurd (nothing_some x h)
  made_by_key k v class x (Some props) h = made_by_keys class x (all_given (map (key_value program models its k v) props)) h

  made_by_class : (k : Known) (v : ℕ) (x : TermValue) (o : Option ℕ) → class_of_variable rel v ≡ o → option_and_then (term_by program models its k v) o ≡ Some x → IsMade v x
  made_by_class k v x None is h = absurd (nothing_some x h)
  made_by_class k v x (Some class) is h = let (t, same) = made_by_key k v class x (key_of program class) h in record { class = class; class_is = is; t = t; is = same }

  pub made_later : (n v : ℕ) (x : TermValue) → v < length rel.vars → value_of before v ≡ None → value_of (round n) v ≡ Some x → IsMade v x
  made_later zero v x below none h = absurd (nothing_some x (sym none ∙ h))
  made_later (suc n) v x below none h =
      let k : Known = record { values = round n; scope = scope } in
      made_by_class k v x (class_of_variable rel v) refl
      (ap (λ o. option_or o (made_term program models rel its k v)) (sym none)
      ∙ sym (at_variable rel (λ w. option_or (value_of before w) (made_term program models rel its (record { values = round n; scope = scope }) w)) v below) ∙ h)

class_from : (ty : Ty) (class : ℕ) → class_in ty ≡ Some class → (meta : ℕ) × (id : ClassId) × (ty ≡ types.Class meta id)
class_from (types.Class meta id) class h = (meta, id, refl)
class_from ty class h = absurd (nothing_some class h)

pub one_value : (o : Out) (d : Datum) → datum_of o ≡ Some d → o ≡ outs.One d
one_value (outs.One e) d h = ap (λ x. outs.One x) (same_Some e d h)
one_value o d h = absurd (nothing_some d h)

-- ---- an entry, and its values as they are read

pub record IsMeeting (metas : List MetaDesc) (program : Program) (sources models : List ModelData) (m : ModelData) (terms : List Term) (number : Numbering) (rel : Rel) (roots b : TermValues) (c g : Values) : Type 0 where
  pub over : AreOver metas program sources models m
  pub reading : IsReading program m terms number
  pub place : ℕ
  pub found : slice_get program.rels place ≡ Some rel
  pub direction : rel.in_direction ≡ true
  pub source : TermSource program sources rel roots b
  pub own : HasRootsOf metas program sources rel roots
  pub among : HasTermsAmong program m terms rel (entry_known program sources rel b).values
  pub met : is_unmet program sources rel (entry_known program sources rel b) ≡ false
  pub reads : Reads program number b c
  pub made : Reads program number (entry_known program sources rel b).values g
  -- each equation holds, and each variable has a value
  pub equations : (v : ℕ) (e : Typed) → Contains rel.wheres (conjuncts.Equation v e) → variable (entry_scope program sources rel b) v ≡ value program sources e (entry_scope program sources rel b)
  pub total : (v : ℕ) → v < length rel.vars → (x : TermValue) × (value_of (entry_known program sources rel b).values v ≡ Some x)

module _ (metas : List MetaDesc) (program : Program) (sources models : List ModelData) (m : ModelData) (terms : List Term) (number : Numbering) (rel : Rel) (roots b : TermValues) (c g : Values)
    (p : IsMeeting metas program sources models m terms number rel roots b c g) where
  abbrev scope : Scope
  scope = entry_scope program sources rel b

  abbrev k : Known
  k = entry_known program sources rel b

  abbrev its : List TargetItem
  its = target_items program rel

  abbrev before : TermValues
  before = map (value_or_datum b scope) (variables rel)

  pub rule : HandsTargetOn program rel
  rule = enforceable_hands_on metas program p.over.evaluable.well p.place rel p.over.enforceable p.found p.direction

  -- a data variable is none of the target
  data_is_source : (v : ℕ) → IsDataVariable rel v → is_target_variable program rel v ≡ false
  data_is_source v is =
      let in_model = (p.over.evaluable.well.relations p.place rel p.found).variables.models is.var (contains_at rel.vars v is.var is.found) in
      ap (is_of_target program) is.found ∙ ap (λ x. is_model x program.target) (in_model.data_value is.data_type)

  pub keeps : KeepsToSources program rel
  keeps = rule_keeps metas program p.over.evaluable.well p.place rel p.found rule

  pub given_kept : (v : ℕ) (x : TermValue) → value_of b v ≡ Some x → value_of k.values v ≡ Some x
  given_kept v x h =
      let below : v < length rel.vars = subst (λ n. v < n) p.source.places (within_terms b v x h) in
      value_stays program sources rel its scope before (length rel.vars) v x below
      (at_variable rel (value_or_datum b scope) v below ∙ ap (λ o. option_or o (given_out (variable scope v))) h)

  pub length_known : length k.values ≡ length rel.vars
  length_known = length_round program sources rel its scope before (length_map (value_or_datum b scope) (variables rel) ∙ length_variables rel) (length rel.vars)

  pub places : length g ≡ length rel.vars
  places = p.made.places ∙ length_known

  -- a variable that has no value in the binding has the datum of its equation, or a term
  before_none : (v : ℕ) → v < length rel.vars → value_of b v ≡ None → value_of before v ≡ given_out (variable scope v)
  before_none v below none = at_variable rel (value_or_datum b scope) v below ∙ ap (λ o. option_or o (given_out (variable scope v))) none

  datum_kept : (v : ℕ) (d : Datum) → v < length rel.vars → value_of b v ≡ None → datum_of (variable scope v) ≡ Some d → value_of k.values v ≡ Some (values.Val d)
  datum_kept v d below none has =
      value_stays program sources rel its scope before (length rel.vars) v (values.Val d) below (before_none v below none ∙ ap (option_map (λ e. values.Val e)) has)

  -- ---- variables that are none of the target

  -- a universal one has its datum
  pub source_given : (v : ℕ) → Contains rel.universal v → is_target_variable program rel v ≡ false → (d : Datum) × (value_of b v ≡ Some (values.Val d))
  source_given v universal outside =
      let x : Valued program sources rel (data_in b) v = valued program sources rel (source_variables program rel) (data_in b) v
      (have metas program sources p.over.over_sources p.place rel p.found keeps roots b p.source p.own)
      (Contains-to_filter (λ w. not (is_target_variable program rel w)) rel.universal v (ap not outside) universal) in
      (x.value, datum_from b v x.value x.at)

  -- so one without a value there is no object variable
  never_made : (v class : ℕ) → v < length rel.vars → is_target_variable program rel v ≡ false → value_of b v ≡ None → class_of_variable rel v ≡ Some class → ⊥
  never_made v class below outside none class_is =
      let (var, there) = found_within rel.vars v below in by var there (class_or_data var.ty)
    where
      by : (var : Var) → slice_get rel.vars v ≡ Some var → ((meta : ℕ) × (id : ClassId) × (var.ty ≡ types.Class meta id)) ⊎ ((meta : ℕ) (id : ClassId) → var.ty ≢ types.Class meta id) → ⊥
      by var there (inl (meta, id, typed)) = p.over.enforceable p.place 4 (record {
        rel = rel;
        found = p.found;
        in_direction = p.direction;
        breaks = Breaks.e4 refl (record {
          v = v;
          object = record { var = var; found = there; meta = meta; class = id; typed = typed };
          existential = λ universal.
              let (d, at) = source_given v (((p.over.evaluable.well.relations p.place rel p.found).variables.universal v var there).1 universal) outside in
              nothing_some (values.Val d) (sym none ∙ at);
          own = λ handed.
              true≢false (sym (target_root_is metas program sources p.over.over_sources p.place rel p.found handed.dom handed.of) ∙ ap (is_target_variable program rel) handed.root ∙ outside);
          unmade = λ concrete.
              let t = concrete.of_target in
              true≢false (sym (ap (is_of_target program) t.found ∙ ap (λ x. is_model x program.target) t.target ∙ eq-eqb program.target program.target refl) ∙ outside);
        });
      })
      by var there (inr data_type) =
          let (meta, id, typed) = class_from var.ty class (sym (ap (option_and_then (λ (x : Var). class_in x.ty)) there) ∙ class_is) in
          data_type meta id typed

  -- the scope of the entry and that of its values over the models agree at such a variable
  no_equation : (v : ℕ) (d : Datum) → value_of b v ≡ Some (values.Val d) → (o : Option Typed) → equation_of rel.wheres v ≡ o → o ≡ None
  no_equation v d at None is = refl
  no_equation v d at (Some e) is =
      let (place, there) = equation_found rel.wheres v e is in
      let below : v < length rel.vars = subst (λ n. v < n) p.source.places (within_terms b v (values.Val d) at) in
      let (var, found) = found_within rel.vars v below in
      let meant = p.over.evaluable.well.relations p.place rel p.found in
      let universal = (meant.variables.universal v var found).0 (datum_universal metas program sources p.over.over_sources p.place rel p.found keeps roots b p.source p.own v d at) in
      absurd ((meant.wheres.are place v e there).1 universal)

  stays_in : (v : ℕ) → v < length rel.vars → equation_of rel.wheres v ≡ None → (n : ℕ) → variable (scope_within program sources rel (scope_of (data_in b)) n) v ≡ variable (scope_of (data_in b)) v
  stays_in v below none zero = refl
  stays_in v below none (suc n) =
      let x : Scope = scope_within program sources rel (scope_of (data_in b)) n in
      at_scope rel (λ w. by_equation program sources x (variable (scope_of (data_in b)) w) (equation_of rel.wheres w)) v below ∙ ap (by_equation program sources x (variable (scope_of (data_in b)) v)) none

  read_at : (v : ℕ) (d : Datum) → value_of k.values v ≡ Some (values.Val d) → variable (scope_of g) v ≡ outs.One d
  read_at v d at = sym (variable_value g v) ∙ ap bound_value (read_datum program number k.values g p.made v d at)

  of_given : (v : ℕ) (d : Datum) → value_of b v ≡ Some (values.Val d) → variable scope v ≡ outs.One d
  of_given v d at =
      let below : v < length rel.vars = subst (λ n. v < n) p.source.places (within_terms b v (values.Val d) at) in
      stays_in v below (no_equation v d at (equation_of rel.wheres v) refl) (length rel.wheres)
      ∙ sym (variable_value (data_in b) v) ∙ ap bound_value (datum_to b v d at)

  same_within : (v : ℕ) → v < length rel.vars → is_target_variable program rel v ≡ false → (o : Option TermValue) → value_of b v ≡ o → variable scope v ≡ variable (scope_of g) v
  same_within v below outside (Some x) at = by (kind_of x)
    where
      by : KindOf x → variable scope v ≡ variable (scope_of g) v
      by (KindOf.datum d is) =
          let here : value_of b v ≡ Some (values.Val d) = at ∙ ap (λ y. Some y) is in
          of_given v d here ∙ sym (read_at v d (given_kept v (values.Val d) here))
      by (KindOf.term t is) = absurd (true≢false (sym (term_is_target metas program sources rel roots b p.source p.own v t (at ∙ ap (λ y. Some y) is)) ∙ outside))
  same_within v below outside None at = by (datum_of (variable scope v)) refl
    where
      by : (d : Option Datum) → datum_of (variable scope v) ≡ d → variable scope v ≡ variable (scope_of g) v
      by (Some d) has = one_value (variable scope v) d has ∙ sym (read_at v d (datum_kept v d below at has))
      by None has =
          let (x, there) = p.total v below in
          let later = made_later program sources rel its scope before (length rel.vars) v x below (before_none v below at ∙ ap (option_map (λ e. values.Val e)) has) there in
          absurd (never_made v later.class below outside at later.class_is)

  past : (v : ℕ) → length rel.vars ≤ v → variable scope v ≡ variable (scope_of g) v
  past v beyond =
      let long : length scope ≡ length rel.vars = length_within metas program sources p.over.over_sources p.place rel p.found keeps roots b p.source p.own (length rel.wheres) in
      let other : length (scope_of g) ≡ length rel.vars = length_map bound_value g ∙ places in
      get_or_past scope v outs.Invalid (omega (arith, long, beyond)) ∙ sym (get_or_past (scope_of g) v outs.Invalid (omega (arith, other, beyond)))

  pub scopes_agree : (v : ℕ) → is_target_variable program rel v ≡ false → variable scope v ≡ variable (scope_of g) v
  scopes_agree v outside = elim (cases_lt v (length rel.vars)) [ inl below ↦ same_within v below outside (value_of b v) refl | inr beyond ↦ past v beyond ]

  -- no value in it has an object of the target
  pub scope_fine : (v : ℕ) → HasNoTarget program.target (variable scope v)
  scope_fine =
      (fine_scope program sources models p.over.others rel rule (scope_of (data_in b))
      (scope_apart metas program sources p.over.over_sources p.place rel p.found keeps roots b p.source p.own) (length rel.wheres)).1

  -- ---- expressions that name no variable of the target

  pub expression_agrees : (e : Typed) → IsExpressionOf rel e → NamesSources program rel e → value program sources e scope ≡ value_for program models e g
  expression_agrees e is names =
      (scope_alike program sources models e scope (scope_of g) p.over.others (rule.speaks e is)
      (length_within metas program sources p.over.over_sources p.place rel p.found keeps roots b p.source p.own (length rel.wheres) ∙ sym (length_map bound_value g ∙ places))
      (λ v named. (scopes_agree v (names v named), scope_fine v))).0

  -- ---- values of each kind

  pub unbound : (v : ℕ) → v < length rel.vars → equation_of rel.wheres v ≡ None → value_of b v ≡ None → variable scope v ≡ outs.Invalid
  unbound v below none nothing = stays_in v below none (length rel.wheres) ∙ sym (variable_value (data_in b) v) ∙ ap bound_value (data_at b v ∙ ap (option_and_then datum_in) nothing)

  no_subject : (v : ℕ) → is_target_variable program rel v ≡ true → (o : Option Typed) → equation_of rel.wheres v ≡ o → o ≡ None
  no_subject v target None is = refl
  no_subject v target (Some e) is =
      let (place, there) = equation_found rel.wheres v e is in
      absurd (true≢false (sym target ∙ data_is_source v ((p.over.evaluable.well.relations p.place rel p.found).wheres.are place v e there).0))

  -- a variable of the target has a term
  pub term_known : (v : ℕ) → v < length rel.vars → is_target_variable program rel v ≡ true → (t : Term) × (value_of k.values v ≡ Some (values.Term t))
  term_known v below target = let (x, at) = p.total v below in by (value_of b v) refl x at (kind_of x)
    where
      late : (x : TermValue) → value_of k.values v ≡ Some x → value_of b v ≡ None → (d : Option Datum) → datum_of (variable scope v) ≡ d → (t : Term) × (value_of k.values v ≡ Some (values.Term t))
      late x at none None has =
          let later = made_later program sources rel its scope before (length rel.vars) v x below (before_none v below none ∙ ap (option_map (λ e. values.Val e)) has) at in
          (later.t, at ∙ ap (λ y. Some y) later.is)
      late x at none (Some d) has = absurd (nothing_some d (sym (ap datum_of (unbound v below (no_subject v target (equation_of rel.wheres v) refl) none)) ∙ has))

      by : (o : Option TermValue) → value_of b v ≡ o → (x : TermValue) → value_of k.values v ≡ Some x → KindOf x → (t : Term) × (value_of k.values v ≡ Some (values.Term t))
      by o given x at (KindOf.term t is) = (t, at ∙ ap (λ y. Some y) is)
      by None given x at (KindOf.datum d is) = late x at given (datum_of (variable scope v)) refl
      by (Some y) given x at (KindOf.datum d is) =
          let same : Some y ≡ Some (values.Val d) = sym (given_kept v y given) ∙ at ∙ ap (λ z. Some z) is in
          absurd (true≢false (sym target ∙ datum_is_source metas program sources rel roots b p.source p.own v d (given ∙ same)))

  -- and another one a datum
  pub datum_known : (v : ℕ) → v < length rel.vars → is_target_variable program rel v ≡ false → (d : Datum) × (value_of k.values v ≡ Some (values.Val d)) × (variable scope v ≡ outs.One d)
  datum_known v below outside = let (x, at) = p.total v below in by x at (kind_of x) (value_of b v) refl
    where
      never : (x : TermValue) (t : Term) → value_of k.values v ≡ Some x → x ≡ values.Term t → value_of b v ≡ None → (d : Option Datum) → datum_of (variable scope v) ≡ d → ⊥
      never x t at is none (Some d) has = no_term d t (sym (datum_kept v d below none has) ∙ at ∙ ap (λ z. Some z) is)
      never x t at is none None has =
          let later = made_later program sources rel its scope before (length rel.vars) v x below (before_none v below none ∙ ap (option_map (λ e. values.Val e)) has) at in
          never_made v later.class below outside none later.class_is

      by : (x : TermValue) → value_of k.values v ≡ Some x → KindOf x → (o : Option TermValue) → value_of b v ≡ o → (d : Datum) × (value_of k.values v ≡ Some (values.Val d)) × (variable scope v ≡ outs.One d)
      by x at (KindOf.datum d is) o given = let here : value_of k.values v ≡ Some (values.Val d) = at ∙ ap (λ z. Some z) is in (d, here, scopes_agree v outside ∙ read_at v d here)
      by x at (KindOf.term t is) (Some y) given =
          let same : Some y ≡ Some (values.Term t) = sym (given_kept v y given) ∙ at ∙ ap (λ z. Some z) is in
          absurd (true≢false (sym (term_is_target metas program sources rel roots b p.source p.own v t (given ∙ same)) ∙ outside))
      by x at (KindOf.term t is) None given = absurd (never x t at is given (datum_of (variable scope v)) refl)
