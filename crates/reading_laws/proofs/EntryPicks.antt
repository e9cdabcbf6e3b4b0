-- A value for each variable of a binding over the models: that of the roots, the datum that it is, or the term of a match.
use Rattle.std.specs.Prelude.{◌≡◌, ◌⊎◌, ◌<◌, ℕ, Bool, true, false, ◌&&◌, not, ◌==◌, List, map, length, Option, None, Some, slice_get, Contains, IsTrue}
use Rattle.std.specs.List.{list_all}
use Rattle.std.specs.Option.{option_and_then}
use Rattle.std.proofs.Common.{refl, sym, ap, subst, ◌∙◌, inl, inr}
use Rattle.std.proofs.lemmas.Bool.{and_parts, true≢false, eqb-true, eq-eqb}
use Rattle.std.proofs.lemmas.List.FromFn.{length-map-range_with_len}
use Rattle.object_tables.proofs.SlotLemmas.{Contains-to_filter}
use Rattle.object_tables.proofs.ListLemmas.{Contains-filter}
use Rattle.mof_metamodel.specs.declared.desc.MetaDesc.{MetaDesc}
use Rattle.object_tables.specs.Models.{ModelData}
use Rattle.qv_syntax.specs.declared.program.Program.{Program}
use Rattle.qv_syntax.specs.declared.program.Rel.{Rel}
use Rattle.qv_syntax.specs.WellFormed.{IsWellFormed}
use Rattle.qvtr_semantics.specs.declared.datum.Datum.{Datum}
use Rattle.qvtr_semantics.specs.declared.datum.Datum.TheVariants.{Val}
use Rattle.qvtr_semantics.specs.Objects.{is_number_among}
use Rattle.qvtr_semantics.specs.Expressions.{setting}
use Rattle.qvtr_semantics.specs.Templates.{Values, value_at}
use Rattle.qvtr_semantics.specs.Bindings.{is_value_for, have_values, source_meets, conjunct_holds, meets_source}
use Rattle.template_match.specs.Sources.{is_target_variable, source_variables, meets_without_target}
use Rattle.template_match.proofs.ListLaws.{any_from, any_at}
use Rattle.template_match.proofs.SideLaws.{Valued, valued}
use Rattle.enforcement_rules.proofs.ListLaws.{all_each, all_from}
use Rattle.std.proofs.lemmas.Bool.{and_from}
use Rattle.source_laws.specs.Agreement.{AgreeBut}
use Rattle.source_laws.specs.SourceValues.{IsOfSources}
use Rattle.source_laws.specs.TargetRule.{HandsTargetOn}
use Rattle.source_laws.proofs.RuleLaws.{rule_keeps}
use Rattle.source_laws.proofs.BindingLaws.{had, meets_same}
use Rattle.mof_metamodel.proofs.Facts.{contains_at}
use Rattle.repair_semantics.specs.declared.term.Term.{Term}
use Rattle.repair_semantics.specs.declared.term.TermValue.{TermValue}
use Rattle.repair_semantics.specs.Terms.{datum_in}
use Rattle.repair_semantics.specs.EntryValues.{TermValues, value_of, data_in}
use Rattle.repair_semantics.specs.Making.{variables}
use Rattle.repair_semantics.specs.Entries.{IsUniversalTarget, TermSource}
use Rattle.reading_laws.specs.Readings.{Numbering, read_value}
use Rattle.reading_laws.proofs.CallValues.{none_some, val_term, same_val, same_term, datum_of_val, val_or_term, datum_from, datum_there, data_at, data_long, val_read, ReadsOne, some_read, IsFit, AreFit}
use Rattle.std.proofs.lemmas.Option.{same_Some}
use Rattle.reading_laws.proofs.EntryKnown.{variables_at, variables_within, within_long}
use Rattle.repair_semantics.specs.declared.term.TermValue.TheVariants as values
use Rattle.reading_laws.proofs.EntryTargets.{target_value}

-- ---- the values that are picked

-- where the value of a variable comes from
pub data FromUniversal (program : Program) (rel : Rel) (v : ℕ) (x : TermValue) : Type 0 where
  target_one : Contains rel.universal v → is_target_variable program rel v ≡ true → (t : Term) → x ≡ values.Term t → FromUniversal program rel v x
  source_one : Contains rel.universal v → is_target_variable program rel v ≡ false → (d : Datum) → x ≡ values.Val d → FromUniversal program rel v x

module _ (program : Program) (number : Numbering) (terms : List Term) (rel : Rel) (roots : TermValues) (c : Values) where
  -- the variable is universal, or a root that has a value
  abbrev pub IsAsked : ℕ → Type 0
  IsAsked v = Contains rel.universal v ⊎ ((x : TermValue) × (value_of roots v ≡ Some x))

  pub record Picked (v : ℕ) (o : Option TermValue) : Type 0 where
    pub reads : IsAsked v → ReadsOne program number o (value_at c v)
    pub fit : (x : TermValue) → o ≡ Some x → IsFit program terms rel v x
    pub from : (x : TermValue) → o ≡ Some x → (value_of roots v ≡ Some x) ⊎ FromUniversal program rel v x
    pub keeps : (x : TermValue) → value_of roots v ≡ Some x → o ≡ Some x
    pub term : IsUniversalTarget program rel v → (t : Term) × (o ≡ Some (values.Term t))

-- a number that is among others
pub number_there : (n : ℕ) (ns : List ℕ) → is_number_among n ns ≡ true → Contains ns n
number_there n ns h = let found = any_from (λ k. k == n) ns h in subst (Contains ns) (eqb-true found.0 n found.2) found.1

pub there_number : (n : ℕ) (ns : List ℕ) → is_number_among n ns ≡ false → Contains ns n → ⊥
there_number n ns h there = true≢false (sym (any_at (λ k. k == n) ns n (eq-eqb n n refl) there) ∙ h)

module _ (metas : List MetaDesc) (program : Program) (formed : IsWellFormed metas program) (sources models : List ModelData) (agree : AgreeBut program.target sources models)
    (number : Numbering) (terms : List Term) (place : ℕ) (rel : Rel) (found : slice_get program.rels place ≡ Some rel) (rule : HandsTargetOn program rel) (roots : TermValues)
    (roots_fit : AreFit program terms rel roots) (roots_long : length roots ≡ length rel.vars) (c : Values) (long : length c ≡ length rel.vars)
    (roots_read : (v : ℕ) (x : TermValue) → value_of roots v ≡ Some x → ReadsOne program number (Some x) (value_at c v))
    (others : (v : ℕ) (d : Datum) → value_at c v ≡ Some d → is_target_variable program rel v ≡ false → IsAsked program number terms rel roots c v)
    (meets : IsTrue (meets_source program models rel c))
    (matched : (v : ℕ) → IsUniversalTarget program rel v → (t : Term) × Contains terms t × ((d : Datum) → value_at c v ≡ Some d → read_value program number (values.Term t) ≡ Some d)) where
  abbrev Pick : ℕ → Option TermValue → Type 0
  Pick v o = Picked program number terms rel roots c v o

  outer : ((have_values program models rel rel.universal c && list_all (source_meets program models c) rel.domains) ≡ true) × (list_all (conjunct_holds program models c) rel.whens ≡ true)
  outer = and_parts (have_values program models rel rel.universal c && list_all (source_meets program models c) rel.domains) (list_all (conjunct_holds program models c) rel.whens) meets

  inner : (have_values program models rel rel.universal c ≡ true) × (list_all (source_meets program models c) rel.domains ≡ true)
  inner = and_parts (have_values program models rel rel.universal c) (list_all (source_meets program models c) rel.domains) outer.0

  have_sources : have_values program models rel (source_variables program rel) c ≡ true
  have_sources =
      all_from (λ v. is_value_for (setting program models) (slice_get rel.vars v) (value_at c v)) (source_variables program rel)
      (λ v there. all_each (λ w. is_value_for (setting program models) (slice_get rel.vars w) (value_at c w)) rel.universal inner.0 v
      (Contains-filter (λ w. not (is_target_variable program rel w)) rel.universal v there))

  without_target : meets_without_target program models rel c ≡ true
  without_target =
      and_from (have_values program models rel (source_variables program rel) c && list_all (source_meets program models c) rel.domains) (list_all (conjunct_holds program models c) rel.whens)
      (and_from (have_values program models rel (source_variables program rel) c) (list_all (source_meets program models c) rel.domains) have_sources inner.1) outer.1

  -- ---- one variable

  root_term : (v : ℕ) (x : TermValue) → value_of roots v ≡ Some x → IsUniversalTarget program rel v → (t : Term) × (Some x ≡ Some (values.Term t))
  root_term v x is u = by (val_or_term x)
    where
      d : (d : Datum) × (value_at c v ≡ Some d) × (IsOfSources program.target d → ⊥)
      d = target_value metas program formed models place rel found c v inner.0 u.universal u.target

      y : (y : Datum) × (value_at c v ≡ Some y) × (read_value program number x ≡ Some y)
      y = some_read program number x (value_at c v) (roots_read v x is)

      by : ((a : Datum) × (x ≡ values.Val a)) ⊎ ((t : Term) × (x ≡ values.Term t)) → (t : Term) × (Some x ≡ Some (values.Term t))
      by (inl (a, same)) =
          let read : a ≡ y.0 = same_Some a y.0 (sym (val_read program number a) ∙ sym (ap (read_value program number) same) ∙ y.2) in
          let one : a ≡ d.0 = read ∙ same_Some y.0 d.0 (sym y.1 ∙ d.1) in
          absurd (d.2 (subst (IsOfSources program.target) one ((roots_fit v x is).told.data_value a same)))
      by (inr (t, same)) = (t, ap (λ z. Some z) same)

  picked_root : (v : ℕ) (x : TermValue) → value_of roots v ≡ Some x → Pick v (Some x)
  picked_root v x is = record {
    reads = λ asked. roots_read v x is;
    fit = λ y same. subst (λ z. IsFit program terms rel v z) (same_Some x y same) (roots_fit v x is);
    from = λ y same. inl (is ∙ same);
    keeps = λ y at. sym is ∙ at;
    term = λ u. root_term v x is u;
  }

  picked_none : (v : ℕ) → value_of roots v ≡ None → is_number_among v rel.universal ≡ false → Pick v None
  picked_none v is outside = record {
    reads = λ asked. absurd (no_one asked);
    fit = λ y same. absurd (none_some y same);
    from = λ y same. absurd (none_some y same);
    keeps = λ y at. absurd (none_some y (sym is ∙ at));
    term = λ u. absurd (there_number v rel.universal outside u.universal);
  }
    where
      no_one : IsAsked program number terms rel roots c v → ⊥
      no_one (inl universal) = there_number v rel.universal outside universal
      no_one (inr x) = none_some x.0 (sym is ∙ x.1)

  picked_term : (v : ℕ) → value_of roots v ≡ None → (u : IsUniversalTarget program rel v) → (t : Term) → Contains terms t
      → ((d : Datum) → value_at c v ≡ Some d → read_value program number (values.Term t) ≡ Some d) → Pick v (Some (values.Term t))
  picked_term v is u t there read =
      let d = target_value metas program formed models place rel found c v inner.0 u.universal u.target in record {
        reads = λ asked. subst (λ o. ReadsOne program number (Some (values.Term t)) o) (sym d.1) (read d.0 d.1);
        fit = λ y same. record {
          told = record {
            data_value = λ a is_a. absurd (val_term a t (sym (same_Some (values.Term t) y same ∙ is_a)));
            term = λ w is_w. subst (Contains terms) (same_term t w (same_Some (values.Term t) y same ∙ is_w)) there;
          };
          target = λ w is_w. u.target;
        };
        from = λ y same. inr (FromUniversal.target_one u.universal u.target t (sym (same_Some (values.Term t) y same)));
        keeps = λ y at. absurd (none_some y (sym is ∙ at));
        term = λ w. (t, refl);
      }

  picked_datum : (v : ℕ) → value_of roots v ≡ None → Contains rel.universal v → is_target_variable program rel v ≡ false → (d : Datum) → value_at c v ≡ Some d → Pick v (Some (values.Val d))
  picked_datum v is universal outside d at = record {
    reads = λ asked. subst (λ o. ReadsOne program number (Some (values.Val d)) o) (sym at) (val_read program number d);
    fit = λ y same. record {
      told = record {
        data_value = λ a is_a. subst (IsOfSources program.target) (same_val d a (same_Some (values.Val d) y same ∙ is_a))
            (had program models models (λ n other. refl) rel c v d have_sources (Contains-to_filter (λ w. not (is_target_variable program rel w)) rel.universal v (ap not outside) universal) at);
        term = λ w is_w. absurd (val_term d w (same_Some (values.Val d) y same ∙ is_w));
      };
      target = λ w is_w. absurd (val_term d w (same_Some (values.Val d) y same ∙ is_w));
    };
    from = λ y same. inr (FromUniversal.source_one universal outside d (sym (same_Some (values.Val d) y same)));
    keeps = λ y there. absurd (none_some y (sym is ∙ there));
    term = λ u. absurd (true≢false (sym u.target ∙ outside));
  }

  pick_universal : (v : ℕ) → value_of roots v ≡ None → Contains rel.universal v → (x : Bool) → is_target_variable program rel v ≡ x → (o : Option TermValue) × Pick v o
  pick_universal v is universal true target =
      let u : IsUniversalTarget program rel v = record { universal = universal; target = target } in
      let t = matched v u in
      (Some (values.Term t.0), picked_term v is u t.0 t.1 t.2)
  pick_universal v is universal false outside =
      let x : Valued program models rel c v = valued program models rel rel.universal c v inner.0 universal in
      (Some (values.Val x.value), picked_datum v is universal outside x.value x.at)

  pick_free : (v : ℕ) → value_of roots v ≡ None → (x : Bool) → is_number_among v rel.universal ≡ x → (o : Option TermValue) × Pick v o
  pick_free v is true there = pick_universal v is (number_there v rel.universal there) (is_target_variable program rel v) refl
  pick_free v is false outside = (None, picked_none v is outside)

  pick_by : (v : ℕ) (o : Option TermValue) → value_of roots v ≡ o → (p : Option TermValue) × Pick v p
  pick_by v None is = pick_free v is (is_number_among v rel.universal) refl
  pick_by v (Some x) is = (Some x, picked_root v x is)

  pick : (v : ℕ) → (p : Option TermValue) × Pick v p
  pick v = pick_by v (value_of roots v) refl

  -- ---- all of them

  pub binding : TermValues
  binding = map (λ v. (pick v).0) (variables rel)

  picked_at : (v : ℕ) → v < length rel.vars → Pick v (value_of binding v)
  unfolding binding
  picked_at v less = subst (Pick v) (sym (variables_at (λ w. (pick w).0) rel v less)) (pick v).1

  less_value : (v : ℕ) (x : TermValue) → value_of binding v ≡ Some x → v < length rel.vars
  unfolding binding
  less_value v x at = variables_within (λ w. (pick w).0) rel v x at

  less_root : (v : ℕ) (x : TermValue) → value_of roots v ≡ Some x → v < length rel.vars
  less_root v x at = subst (λ n. v < n) roots_long (within_long roots v x at)

  less_universal : (v : ℕ) → Contains rel.universal v → v < length rel.vars
  less_universal v there = ((formed.numbers.relations rel (contains_at program.rels place rel found)).vars).universal v there

  pub binding_long : length binding ≡ length rel.vars
  unfolding binding
  binding_long = length-map-range_with_len (λ w. (pick w).0) 0 (length rel.vars)

  pub binding_fits : AreFit program terms rel binding
  binding_fits v x at = (picked_at v (less_value v x at)).fit x at

  pub binding_reads : (v : ℕ) → IsAsked program number terms rel roots c v → ReadsOne program number (value_of binding v) (value_at c v)
  binding_reads v asked = (picked_at v (less asked)).reads asked
    where
      less : IsAsked program number terms rel roots c v → v < length rel.vars
      less (inl universal) = less_universal v universal
      less (inr x) = less_root v x.0 x.1

  pub binding_asked : (v : ℕ) (x : TermValue) → value_of binding v ≡ Some x → IsAsked program number terms rel roots c v
  binding_asked v x at = by ((picked_at v (less_value v x at)).from x at)
    where
      by : (value_of roots v ≡ Some x) ⊎ FromUniversal program rel v x → IsAsked program number terms rel roots c v
      by (inl is) = inr (x, is)
      by (inr (FromUniversal.target_one universal target t is)) = inl universal
      by (inr (FromUniversal.source_one universal outside d is)) = inl universal

  binding_keeps : (v : ℕ) (x : TermValue) → value_of roots v ≡ Some x → value_of binding v ≡ Some x
  binding_keeps v x at = (picked_at v (less_root v x at)).keeps x at

  sources_same : (v : ℕ) → is_target_variable program rel v ≡ false → value_at c v ≡ value_at (data_in binding) v
  sources_same v outside = by (value_at c v) (value_of binding v) refl refl ∙ sym (data_at binding v)
    where
      datum : (x : TermValue) (d : Datum) → value_of binding v ≡ Some x → read_value program number x ≡ Some d → ((a : Datum) × (x ≡ values.Val a)) ⊎ ((t : Term) × (x ≡ values.Term t)) → Some d ≡ datum_in x
      datum x d at read (inl (a, same)) =
          sym read ∙ ap (read_value program number) same ∙ val_read program number a ∙ sym (datum_of_val a) ∙ sym (ap datum_in same)
      datum x d at read (inr (t, same)) = absurd (true≢false (sym ((binding_fits v x at).target t same) ∙ outside))

      by : (p : Option Datum) (o : Option TermValue) → value_at c v ≡ p → value_of binding v ≡ o → p ≡ option_and_then datum_in o
      by None None there at = refl
      by None (Some x) there at =
          absurd (subst (λ q. ReadsOne program number (Some x) q) there (subst (λ q. ReadsOne program number q (value_at c v)) at (binding_reads v (binding_asked v x at))))
      by (Some d) None there at =
          absurd (subst (λ q. ReadsOne program number None q) there (subst (λ q. ReadsOne program number q (value_at c v)) at (binding_reads v (others v d there outside))))
      by (Some d) (Some x) there at =
          datum x d at (subst (λ q. ReadsOne program number (Some x) q) there (subst (λ q. ReadsOne program number q (value_at c v)) at (binding_reads v (binding_asked v x at)))) (val_or_term x)

  pub binding_source : TermSource program sources rel roots binding
  binding_source = record {
    places = binding_long;
    extends = binding_keeps;
    source = record {
      places = data_long binding ∙ binding_long;
      extends = λ v d at. datum_there binding v d (binding_keeps v (values.Val d) (datum_from roots v d at));
      no_others = λ v d at. source_from v d (datum_from binding v d at);
      meets = sym (meets_same program models sources (λ n other. sym (agree n other)) place rel formed.relations found (rule_keeps metas program formed place rel found rule) c (data_in binding)
          (record { places = long ∙ sym (data_long binding ∙ binding_long); same = sources_same }) long) ∙ without_target;
    };
    terms = λ v u. (picked_at v (less_universal v u.universal)).term u;
    no_others = λ v t at. term_from v t ((picked_at v (less_value v (values.Term t) at)).from (values.Term t) at);
  }
    where
      term_from : (v : ℕ) (t : Term) → (value_of roots v ≡ Some (values.Term t)) ⊎ FromUniversal program rel v (values.Term t) → IsUniversalTarget program rel v ⊎ (value_of roots v ≡ Some (values.Term t))
      term_from v t (inl is) = inr is
      term_from v t (inr (FromUniversal.target_one universal target w is)) = inl (record { universal = universal; target = target })
      term_from v t (inr (FromUniversal.source_one universal outside d is)) = absurd (val_term d t (sym is))

      datum_by : (v : ℕ) (d : Datum) → (value_of roots v ≡ Some (values.Val d)) ⊎ FromUniversal program rel v (values.Val d)
          → Contains (source_variables program rel) v ⊎ (value_at (data_in roots) v ≡ Some d)
      datum_by v d (inl is) = inr (datum_there roots v d is)
      datum_by v d (inr (FromUniversal.target_one universal target t is)) = absurd (val_term d t is)
      datum_by v d (inr (FromUniversal.source_one universal outside e is)) =
          inl (Contains-to_filter (λ w. not (is_target_variable program rel w)) rel.universal v (ap not outside) universal)

      source_from : (v : ℕ) (d : Datum) → value_of binding v ≡ Some (values.Val d) → Contains (source_variables program rel) v ⊎ (value_at (data_in roots) v ≡ Some d)
      source_from v d at = datum_by v d ((picked_at v (less_value v (values.Val d) at)).from (values.Val d) at)
