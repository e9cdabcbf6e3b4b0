-- In a binding of an entry each object variable that the relation doesn't make has a value: a universal one from the sources or from a match, and
-- the root of the target domain from the caller.
use Rattle.std.specs.Prelude.{◌≡◌, ◌<◌, ◌&&◌, ◌==◌, ℕ, Bool, true, false, not, List, length, Option, None, Some, is_some, slice_get, Contains}
use Rattle.std.specs.Option.{option_map}
use Rattle.std.proofs.Common.{refl, sym, ap, ◌∙◌, eq-eqb}
use Rattle.std.proofs.lemmas.Bool.{and_parts, true≢false}
use Rattle.std.proofs.lemmas.Option.{same_Some}
use Rattle.mof_metamodel.specs.declared.desc.MetaDesc.{MetaDesc}
use Rattle.object_tables.specs.Models.{ModelData}
use Rattle.object_tables.proofs.SlotLemmas.{Contains-to_filter}
use Rattle.qv_syntax.specs.declared.program.Program.{Program}
use Rattle.qv_syntax.specs.declared.program.Rel.{Rel}
use Rattle.qv_syntax.specs.declared.program.Dom.{Dom}
use Rattle.qvtr_semantics.specs.Objects.{is_number_among}
use Rattle.qvtr_semantics.specs.Bindings.{is_target_domain}
use Rattle.template_match.specs.Sources.{is_target_variable, source_variables}
use Rattle.template_match.proofs.ListLaws.{any_at, find_some}
use Rattle.evaluation_laws.proofs.NavigationLaws.{among}
use Rattle.template_match.proofs.SideLaws.{Valued, valued}
use Rattle.repair_semantics.specs.declared.term.TermValue.{TermValue}
use Rattle.repair_semantics.specs.declared.term.TermValue.TheVariants as values
use Rattle.repair_semantics.specs.EntryValues.{TermValues, value_of, data_in}
use Rattle.repair_semantics.specs.TargetItems.{target_domain, target_root}
use Rattle.repair_semantics.specs.Making.{is_option_of}
use Rattle.repair_semantics.specs.Entries.{TermSource}
use Rattle.enforceable_sources.proofs.EnforceableLaws.{enforceable_hands_on}
use Rattle.source_laws.proofs.BindingLaws.{found_within}
use Rattle.source_laws.proofs.RuleLaws.{rule_keeps, target_is}
use Rattle.reading_laws.specs.Roots.{HasRootsOf}
use Rattle.reading_laws.proofs.MeetingValues.{nothing_some, datum_from}
use Rattle.reading_laws.proofs.MeetingTypes.{have}
use Rattle.entry_making.specs.Givers.{is_handed_on}
use Rattle.entry_making.specs.KeyedVariables.{AreGiven}
use Rattle.entry_finding.specs.Premises.{CanBeEnforced}
use Rattle.entry_finding.proofs.RelationLaws.{option_is, meant}

falsely : (x : Bool) → not x ≡ true → x ≡ false
falsely true h = absurd (true≢false (sym h))
falsely false h = refl

truly : (x : Bool) → not x ≡ false → x ≡ true
truly true h = refl
truly false h = absurd (true≢false h)

module _ (metas : List MetaDesc) (program : Program) (models : List ModelData) (p : CanBeEnforced metas program models)
    (place : ℕ) (rel : Rel) (found : slice_get program.rels place ≡ Some rel) (direction : rel.in_direction ≡ true)
    (roots b : TermValues) (source : TermSource program models rel roots b) (h : HasRootsOf metas program models rel roots) where
  given_universal : (v : ℕ) → Contains rel.universal v → (x : TermValue) × (value_of b v ≡ Some x)
  given_universal v universal = by (is_target_variable program rel v) refl
    where
      by : (y : Bool) → is_target_variable program rel v ≡ y → (x : TermValue) × (value_of b v ≡ Some x)
      by true target = let (t, at) = source.terms v (record { universal = universal; target = target }) in (values.Term t, at)
      by false outside =
          let x : Valued program models rel (data_in b) v = valued program models rel (source_variables program rel) (data_in b) v
          (have metas program models p.evaluable place rel found
          (rule_keeps metas program p.evaluable.well place rel found (enforceable_hands_on metas program p.evaluable.well place rel p.enforceable found direction)) roots b source h)
          (Contains-to_filter (λ w. not (is_target_variable program rel w)) rel.universal v (ap not outside) universal) in
          (values.Val x.value, datum_from b v x.value x.at)

  -- the root of the target domain that the caller hands on
  given_handed : (v : ℕ) → is_handed_on program rel v ≡ true → (x : TermValue) × (value_of b v ≡ Some x)
  given_handed v handed = by (target_domain program rel) refl (option_is (target_root program rel) v both.1)
    where
      both : (not rel.top ≡ true) × (is_option_of (target_root program rel) v ≡ true)
      both = and_parts (not rel.top) (is_option_of (target_root program rel) v) handed

      by : (o : Option Dom) → target_domain program rel ≡ o → option_map (λ (d : Dom). d.root) o ≡ Some v → (x : TermValue) × (value_of b v ≡ Some x)
      by None at is = absurd (nothing_some v is)
      by (Some dom) at is =
          let there = find_some (is_target_domain program) rel.domains dom at in
          let (t, root) = h.handed (falsely rel.top both.0) dom (record { is = there.0; target = target_is program.target dom.model there.1 }) in
          (values.Term t, source.extends v (values.Term t) (ap (value_of roots) (sym (same_Some dom.root v is)) ∙ root))

  -- a variable is universal or existential
  universal_or : (v : ℕ) → v < length rel.vars → is_number_among v rel.existential ≡ false → Contains rel.universal v
  universal_or v within outside = by (is_number_among v rel.universal) refl
    where
      never : is_number_among v rel.universal ≡ false → ⊥
      never none =
          let (var, at) = found_within rel.vars v within in
          let existential : Contains rel.existential v
          = ((meant metas program models p place rel found).variables.existential v var at).1 (λ universal.
          let there : Contains rel.universal v = ((meant metas program models p place rel found).variables.universal v var at).1 universal in
          true≢false (sym (any_at (λ k. k == v) rel.universal v (eq-eqb v v refl) there) ∙ none)) in
          true≢false (sym (any_at (λ k. k == v) rel.existential v (eq-eqb v v refl) existential) ∙ outside)

      by : (x : Bool) → is_number_among v rel.universal ≡ x → Contains rel.universal v
      by true is = among v rel.universal is
      by false is = absurd (never is)

  pub are_given : AreGiven program rel b
  are_given v within unmade has_class = by (is_number_among v rel.existential) refl
    where
      there : (x : TermValue) × (value_of b v ≡ Some x) → is_some (value_of b v) ≡ true
      there (x, at) = ap (λ (o : Option TermValue). is_some o) at

      by : (y : Bool) → is_number_among v rel.existential ≡ y → is_some (value_of b v) ≡ true
      by false outside = there (given_universal v (universal_or v within outside))
      by true existential = there (given_handed v (truly (is_handed_on program rel v) (sym (ap (λ y. y && not (is_handed_on program rel v)) existential) ∙ unmade)))
