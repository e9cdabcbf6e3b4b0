-- The values of an entry, as they are read over the models, meet the source of its relation.
use Rattle.std.specs.Prelude.{◌≡◌, ◌⊎◌, ℕ, Bool, true, false, ◌&&◌, not, List, Option, None, Some, slice_get, Contains}
use Rattle.std.specs.List.{list_all}
use Rattle.std.specs.Option.{option_and_then}
use Rattle.std.proofs.Common.{refl, sym, ap, ◌∙◌, inl, inr}
use Rattle.std.proofs.lemmas.Bool.{and_parts, true≢false}
use Rattle.object_tables.proofs.ListLemmas.{Contains-filter}
use Rattle.mof_metamodel.specs.declared.desc.MetaDesc.{MetaDesc}
use Rattle.object_tables.specs.Models.{ModelData}
use Rattle.object_tables.proofs.SlotLemmas.{Contains-to_filter}
use Rattle.qv_syntax.specs.declared.program.Program.{Program}
use Rattle.qv_syntax.specs.declared.program.Rel.{Rel}
use Rattle.qv_syntax.specs.declared.program.Var.{Var}
use Rattle.qvtr_semantics.specs.declared.datum.Datum.{Datum}
use Rattle.qvtr_semantics.specs.Expressions.{setting}
use Rattle.qvtr_semantics.specs.Objects.{object_datum}
use Rattle.qvtr_semantics.specs.Templates.{Values, value_at}
use Rattle.qvtr_semantics.specs.Bindings.{is_value_for, have_values, source_meets, conjunct_holds, Source}
use Rattle.template_match.specs.Sources.{is_of_target, is_target_variable, source_variables, meets_without_target}
use Rattle.template_match.proofs.ListLaws.{list_all_at}
use Rattle.repair_semantics.specs.declared.term.Term.{Term}
use Rattle.repair_semantics.specs.declared.term.TermValue.{TermValue}
use Rattle.repair_semantics.specs.declared.term.TermValue.TheVariants as values
use Rattle.repair_semantics.specs.Terms.{datum_in}
use Rattle.repair_semantics.specs.EntryValues.{TermValues, value_of, data_in}
use Rattle.repair_semantics.specs.Entries.{IsUniversalTarget, TermSource}
use Rattle.enforceable_sources.proofs.EnforceableLaws.{enforceable_hands_on}
use Rattle.source_laws.specs.SourceRelations.{KeepsToSources, AgreeOnSources}
use Rattle.source_laws.proofs.BindingLaws.{meets_same}
use Rattle.source_laws.proofs.RuleLaws.{rule_keeps}
use Rattle.reading_laws.specs.Readings.{Numbering, IsReading, AreOver, HasTermsAmong, Reads, read_value}
use Rattle.reading_laws.specs.Roots.{HasRootsOf}
use Rattle.reading_laws.proofs.MeetingValues.{KindOf, kind_of, data_at, length_data, datum_from, datum_to, term_to, all_hold, read_datum, read_term, read_from}
use Rattle.std.proofs.lemmas.Bool.{and_from}
use Rattle.reading_laws.proofs.MeetingObjects.{object_fits}
use Rattle.reading_laws.proofs.MeetingEntries.{term_is_target}

module _ (metas : List MetaDesc) (program : Program) (sources models : List ModelData) (m : ModelData) (terms : List Term) (number : Numbering)
    (o : AreOver metas program sources models m) (r : IsReading program m terms number)
    (place : ℕ) (rel : Rel) (found : slice_get program.rels place ≡ Some rel) (is : rel.in_direction ≡ true)
    (roots b : TermValues) (source : TermSource program sources rel roots b) (h : HasRootsOf metas program sources rel roots) (has : HasTermsAmong program m terms rel b)
    (croots c : Values) (given : Reads program number roots croots) (read : Reads program number b c) where
  keeps : KeepsToSources program rel
  keeps = rule_keeps metas program o.evaluable.well place rel found (enforceable_hands_on metas program o.evaluable.well place rel o.enforceable found is)

  -- ---- variables of the sources

  same_by : (v : ℕ) (x : TermValue) → is_target_variable program rel v ≡ false → value_of b v ≡ Some x → KindOf x → value_at (data_in b) v ≡ value_at c v
  same_by v x outside at (KindOf.datum d same) =
      let here : value_of b v ≡ Some (values.Val d) = at ∙ ap (λ z. Some z) same in
      datum_to b v d here ∙ sym (read_datum program number b c read v d here)
  same_by v x outside at (KindOf.term t same) =
      absurd (true≢false (sym (term_is_target metas program sources rel roots b source h v t (at ∙ ap (λ z. Some z) same)) ∙ outside))

  same_at : (v : ℕ) → is_target_variable program rel v ≡ false → value_at (data_in b) v ≡ value_at c v
  same_at v outside = by (value_of b v) refl
    where
      by : (x : Option TermValue) → value_of b v ≡ x → value_at (data_in b) v ≡ value_at c v
      by None at = data_at b v ∙ ap (option_and_then datum_in) at ∙ sym (read.none v at)
      by (Some x) at = same_by v x outside at (kind_of x)

  agree : AgreeOnSources program rel (data_in b) c
  agree = record { places = length_data b ∙ sym read.places; same = same_at }

  meets : meets_without_target program models rel c ≡ true
  meets = sym (meets_same program sources models o.others place rel o.evaluable.well.relations found keeps (data_in b) c agree (length_data b ∙ source.places)) ∙ source.source.meets

  -- ---- variables of the target

  target_value : (v : ℕ) → Contains rel.universal v → is_target_variable program rel v ≡ true → is_value_for (setting program models) (slice_get rel.vars v) (value_at c v) ≡ true
  target_value v universal target =
      let (t, at) = source.terms v (record { universal = universal; target = target }) in
      let (n, num, here) = read_term program number b c read v t at in
      by t n at num here (slice_get rel.vars v) refl
    where
      by : (t : Term) (n : ℕ) → value_of b v ≡ Some (values.Term t) → number t ≡ Some n → value_at c v ≡ Some (object_datum program.target n)
          → (x : Option Var) → slice_get rel.vars v ≡ x → is_value_for (setting program models) x (value_at c v) ≡ true
      by t n at num here None there = absurd (true≢false (sym target ∙ ap (is_of_target program) there))
      by t n at num here (Some var) there =
          ap (is_value_for (setting program models) (Some var)) here
          ∙ object_fits metas program sources models m terms number o r place rel found v var t n there (sym (ap (is_of_target program) there) ∙ target)
          (has.among v t (term_to b v t at)) num (λ class. has.typed v t class (term_to b v t at))

  -- ---- all of it

  values_by : have_values program models rel (source_variables program rel) c ≡ true → (v : ℕ) → Contains rel.universal v → (x : Bool) → is_target_variable program rel v ≡ x
      → is_value_for (setting program models) (slice_get rel.vars v) (value_at c v) ≡ true
  values_by have v universal true target = target_value v universal target
  values_by have v universal false outside =
      list_all_at (λ w. is_value_for (setting program models) (slice_get rel.vars w) (value_at c w)) (source_variables program rel) v have
      (Contains-to_filter (λ w. not (is_target_variable program rel w)) rel.universal v (ap not outside) universal)

  no_others : (v : ℕ) (d : Datum) → value_at c v ≡ Some d → Contains rel.universal v ⊎ (value_at croots v ≡ Some d)
  no_others v d at = let (x, here, same) = read_from program number b c read v d at in by x here same (kind_of x)
    where
      root_read : (x : TermValue) → read_value program number x ≡ Some d → value_of roots v ≡ Some x → value_at croots v ≡ Some d
      root_read x same root = let (e, there, is_read) = given.given v x root in there ∙ sym is_read ∙ same

      by_datum : (e : Datum) → read_value program number (values.Val e) ≡ Some d → Contains (source_variables program rel) v ⊎ (value_at (data_in roots) v ≡ Some e)
          → Contains rel.universal v ⊎ (value_at croots v ≡ Some d)
      by_datum e same (inl among) = inl (Contains-filter (λ w. not (is_target_variable program rel w)) rel.universal v among)
      by_datum e same (inr root) = inr (root_read (values.Val e) same (datum_from roots v e root))

      by_term : (t : Term) → read_value program number (values.Term t) ≡ Some d → IsUniversalTarget program rel v ⊎ (value_of roots v ≡ Some (values.Term t))
          → Contains rel.universal v ⊎ (value_at croots v ≡ Some d)
      by_term t same (inl universal) = inl universal.universal
      by_term t same (inr root) = inr (root_read (values.Term t) same root)

      by : (x : TermValue) → value_of b v ≡ Some x → read_value program number x ≡ Some d → KindOf x → Contains rel.universal v ⊎ (value_at croots v ≡ Some d)
      by x here same (KindOf.datum e is_datum) =
          by_datum e (ap (read_value program number) (sym is_datum) ∙ same) (source.source.no_others v e (datum_to b v e (here ∙ ap (λ z. Some z) is_datum)))
      by x here same (KindOf.term t is_term) = by_term t (ap (read_value program number) (sym is_term) ∙ same) (source.no_others v t (here ∙ ap (λ z. Some z) is_term))

  pub source_met : Source program models rel croots c
  source_met =
      let outer = and_parts (have_values program models rel (source_variables program rel) c && list_all (source_meets program models c) rel.domains) (list_all (conjunct_holds program models c) rel.whens) meets in
      let inner = and_parts (have_values program models rel (source_variables program rel) c) (list_all (source_meets program models c) rel.domains) outer.0 in
      record {
        places = read.places ∙ source.places;
        extends = λ v d at.
            let (x, root, same) = read_from program number roots croots given v d at in
            let (e, here, is_read) = read.given v x (source.extends v x root) in
            here ∙ sym is_read ∙ same;
        no_others = no_others;
        meets = and_from (have_values program models rel rel.universal c && list_all (source_meets program models c) rel.domains) (list_all (conjunct_holds program models c) rel.whens)
            (and_from (have_values program models rel rel.universal c) (list_all (source_meets program models c) rel.domains)
            (all_hold (λ v. is_value_for (setting program models) (slice_get rel.vars v) (value_at c v)) rel.universal (λ v universal. values_by inner.0 v universal (is_target_variable program rel v) refl))
            inner.1)
            outer.1;
      }
