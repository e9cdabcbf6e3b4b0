-- The variables of an entry that have a value are those that are given, and it makes the values of all others.
use Rattle.std.specs.Prelude.{◌≡◌, ◌⊎◌, ◌↔◌, ◌<◌, ◌≢◌, ℕ, zero, suc, Bool, true, false, not, List, [], ◌∷◌, map, length, Option, None, Some, IsSome, is_some, replicate, slice_get, Contains, if◌then◌else◌}
use Rattle.std.specs.Option.{option_map_or}
use Rattle.std.proofs.Common.{refl, sym, ap, subst, ◌∙◌, inl, inr, eq-eqb, true≢false}
use Rattle.mof_metamodel.specs.declared.desc.MetaDesc.{MetaDesc}
use Rattle.mof_metamodel.proofs.Facts.{contains_at}
use Rattle.object_tables.specs.Models.{ModelData}
use Rattle.object_tables.specs.Validity.{Valid}
use Rattle.object_tables.proofs.ListLemmas.{Contains-filter}
use Rattle.object_tables.proofs.SlotLemmas.{Contains-to_filter}
use Rattle.qv_syntax.specs.declared.program.Program.{Program}
use Rattle.qv_syntax.specs.declared.program.Rel.{Rel}
use Rattle.qv_syntax.specs.declared.program.Dom.{Dom}
use Rattle.qv_syntax.specs.declared.typed.Typed.{Typed}
use Rattle.qv_syntax.specs.ProgramTypes.{AreGiven}
use Rattle.qv_syntax.specs.Relations.{IsTargetDomain, IsSourceDomain, OccursInTemplates, IsUniversal}
use Rattle.qvtr_semantics.specs.declared.datum.Datum.{Datum}
use Rattle.qvtr_semantics.specs.Templates.{value_at}
use Rattle.qvtr_semantics.specs.Bindings.{is_model, is_target_domain}
use Rattle.template_match.specs.Sources.{is_target_variable, source_variables}
use Rattle.template_match.proofs.SideLaws.{Valued, valued}
use Rattle.enforcement_rules.proofs.KnownLaws.{universal_listed}
use Rattle.source_laws.proofs.RootLaws.{same_called, typed_call}
use Rattle.source_laws.proofs.RuleLaws.{rule_keeps, target_is}
use Rattle.enforceable_sources.proofs.EnforceableLaws.{enforceable_hands_on}
use Rattle.repair_semantics.specs.declared.term.Term.{Term}
use Rattle.repair_semantics.specs.declared.term.TermValue.{TermValue}
use Rattle.repair_semantics.specs.declared.term.TermValue.TheVariants as values
use Rattle.repair_semantics.specs.declared.entry.Entry.{Entry}
use Rattle.repair_semantics.specs.declared.entry.EntryName.{EntryName}
use Rattle.repair_semantics.specs.EntryValues.{TermValues, value_of, data_in, no_values, root_values, given_value}
use Rattle.repair_semantics.specs.TargetItems.{target_metamodel, no_metamodel}
use Rattle.repair_semantics.specs.Making.{variables, entry_known, made_values}
use Rattle.repair_semantics.specs.EntryOrder.{AreEntries}
use Rattle.repair_semantics.specs.Entries.{IsEntry, IsUniversalTarget, TermSource, entry_calls}
use Rattle.reading_laws.specs.EntryPremises.{EntriesAreMet}
use Rattle.reading_laws.specs.Readings.{AreOver}
use Rattle.reading_laws.specs.Roots.{HasRootsOf}
use Rattle.reading_laws.proofs.CallValues.{val_or_term, datum_from, datum_there}
use Rattle.reading_laws.proofs.CallRoots.{root_given, bound_same, none_long}
use Rattle.reading_laws.proofs.CallArguments.{given_long, IsCallMade, where_made}
use Rattle.reading_laws.proofs.EntryKnown.{variables_at, within_long}
use Rattle.reading_laws.proofs.EntryRoots.{call_found, call_rooted, entry_rooted}
use Rattle.reading_laws.proofs.MeetingValues.{nothing_some}
use Rattle.reading_laws.proofs.MeetingTotal.{all_known}
use Rattle.reading_laws.proofs.MeetingTypes.{have}
use Rattle.entry_finding.specs.Premises.{CanBeEnforced}
use Rattle.entry_finding.proofs.RelationLaws.{meant, ranges}
use Rattle.repair_laws.proofs.EnforcedReading.{over_described, tells_enforced}
use Rattle.demand_trace.specs.Givens.{IsTargetRoot, IsGiven}

none_at : (n v : ℕ) → value_of (replicate n None) v ≡ None
none_at zero v = refl
none_at (suc n) zero = refl
none_at (suc n) (suc v) = none_at n v

as_many : (metas : List MetaDesc) (program : Program) (rel called : Rel) (doms : List Dom) (es : List Typed) → AreGiven metas program rel called doms es → length es ≡ length doms
as_many metas program rel called [] [] given = refl
as_many metas program rel called [] (x ∷ es) given = absurd given
as_many metas program rel called (d ∷ doms) [] given = absurd given
as_many metas program rel called (d ∷ doms) (x ∷ es) given = ap suc (as_many metas program rel called doms es given.1)

module _ (metas : List MetaDesc) (program : Program) (models : List ModelData) (p : CanBeEnforced metas program models) where
  -- ---- values that are there are given

  -- universal, or that of a root
  own_or_root : (rel : Rel) (roots b : TermValues) (source : TermSource program models rel roots b) (v : ℕ) (x : TermValue) → value_of b v ≡ Some x
      → Contains rel.universal v ⊎ (value_of roots v ≡ Some x)
  own_or_root rel roots b source v x at = by (val_or_term x)
    where
      datum : (d : Datum) → x ≡ values.Val d → Contains (source_variables program rel) v ⊎ (value_at (data_in roots) v ≡ Some d) → Contains rel.universal v ⊎ (value_of roots v ≡ Some x)
      datum d is (inl there) = inl (Contains-filter (λ w. not (is_target_variable program rel w)) rel.universal v there)
      datum d is (inr there) = inr (datum_from roots v d there ∙ ap (λ y. Some y) (sym is))

      term : (t : Term) → x ≡ values.Term t → IsUniversalTarget program rel v ⊎ (value_of roots v ≡ Some (values.Term t)) → Contains rel.universal v ⊎ (value_of roots v ≡ Some x)
      term t is (inl there) = inl there.universal
      term t is (inr there) = inr (there ∙ ap (λ y. Some y) (sym is))

      by : ((d : Datum) × (x ≡ values.Val d)) ⊎ ((t : Term) × (x ≡ values.Term t)) → Contains rel.universal v ⊎ (value_of roots v ≡ Some x)
      by (inl (d, is)) = datum d is (source.source.no_others v d (datum_there b v d (at ∙ ap (λ y. Some y) is)))
      by (inr (t, is)) = term t is (source.no_others v t (at ∙ ap (λ y. Some y) is))

  -- a root of a domain that isn't the target's is universal
  root_given_by : (place : ℕ) (rel : Rel) → slice_get program.rels place ≡ Some rel → (v : ℕ) → v < length rel.vars → (dom : Dom) → Contains rel.domains dom → dom.root ≡ v
      → Contains rel.universal v ⊎ IsTargetRoot program rel v
  root_given_by place rel found v within dom there root = by (is_target_domain program dom) refl
    where
      by : (b : Bool) → is_target_domain program dom ≡ b → Contains rel.universal v ⊎ IsTargetRoot program rel v
      by true is = inr (record { dom = dom; of = record { is = there; target = target_is program.target dom.model is }; root = root })
      by false is =
          let source : dom.model ≢ Some program.target = λ same. true≢false (sym (ap (λ o. is_model o program.target) same ∙ eq-eqb program.target program.target refl) ∙ is) in
          let universal : IsUniversal program rel v = IsUniversal.domain dom (record { is = there; source = source }) (OccursInTemplates.root root) in
          inl (universal_listed metas program place rel (meant metas program models p place rel found) (ranges metas program models p place rel found).vars v within universal)

  -- an entry that isn't called has no roots, and one that is called those of its call
  told_by : (e : Entry) (place : ℕ) (rel : Rel) → slice_get program.rels place ≡ Some rel → (roots : TermValues) → TermSource program models rel roots e.values
      → ((w : ℕ) (y : TermValue) → value_of roots w ≡ Some y → (e.called ≡ true) × ((dom : Dom) × Contains rel.domains dom × (dom.root ≡ w)))
      → (v : ℕ) (x : TermValue) → value_of e.values v ≡ Some x → IsGiven program rel e.called v
  told_by e place rel found roots source of_domains v x at = by (own_or_root rel roots e.values source v x at)
    where
      within : v < length rel.vars
      within = subst (λ n. v < n) source.places (within_long e.values v x at)

      rooted : e.called ≡ true → Contains rel.universal v ⊎ IsTargetRoot program rel v → IsGiven program rel e.called v
      rooted called (inl universal) = inl universal
      rooted called (inr root) = inr (called, root)

      by : Contains rel.universal v ⊎ (value_of roots v ≡ Some x) → IsGiven program rel e.called v
      by (inl universal) = inl universal
      by (inr there) = let (called, (dom, among, root)) = of_domains v x there in rooted called (root_given_by place rel found v within dom among root)

  moved : (e : Entry) (n : ℕ) (one other : Rel) (v : ℕ) → e.rel ≡ n → slice_get program.rels n ≡ Some one → slice_get program.rels e.rel ≡ Some other → IsGiven program one e.called v → IsGiven program other e.called v
  moved e n one other v number at found given = subst (λ r. IsGiven program r e.called v) (same_called one other (sym at ∙ ap (slice_get program.rels) (sym number) ∙ found)) given

  pub told_given : (e : Entry) (rel : Rel) → IsEntry program models e → slice_get program.rels e.rel ≡ Some rel → (v : ℕ) (x : TermValue) → value_of e.values v ≡ Some x → IsGiven program rel e.called v
  told_given e other (IsEntry.of_top _ number rel matches top entry more) found v x at =
      moved e number rel other v (ap (λ (y : Entry). y.rel) entry.is) top.is found
      (told_by e number rel top.is (no_values rel) entry.source (λ w y there. absurd (nothing_some y (sym (none_at (length rel.vars) w) ∙ there))) v x at)
  told_given e other (IsEntry.of_call _ from c rel matches is_from within there entry more) found v x at =
      let (frel, from_found) = call_found metas program models p.evaluable p.enforceable from c within in
      let rooted = entry_rooted metas program models p.evaluable p.enforceable from is_from frel from_found in
      let (direction, has) = call_rooted metas program models p.evaluable p.enforceable from c frel rel from_found rooted within there in
      moved e c.rel rel other v (ap (λ (y : Entry). y.rel) entry.is) there found
      (told_by e c.rel rel there (root_values rel c.roots) entry.source (λ w y is. (ap (λ (z : Entry). z.called) entry.is, has.of_domains w y is)) v x at)

  -- ---- what is given has a value

  universal_told : (place : ℕ) (rel : Rel) (found : slice_get program.rels place ≡ Some rel) (direction : rel.in_direction ≡ true) (roots b : TermValues) (source : TermSource program models rel roots b)
      → HasRootsOf metas program models rel roots → (v : ℕ) → Contains rel.universal v → (x : TermValue) × (value_of b v ≡ Some x)
  universal_told place rel found direction roots b source has v universal = by (is_target_variable program rel v) refl
    where
      by : (y : Bool) → is_target_variable program rel v ≡ y → (x : TermValue) × (value_of b v ≡ Some x)
      by true target = let (t, at) = source.terms v (record { universal = universal; target = target }) in (values.Term t, at)
      by false outside =
          let x : Valued program models rel (data_in b) v = valued program models rel (source_variables program rel) (data_in b) v
          (have metas program models p.evaluable place rel found
          (rule_keeps metas program p.evaluable.well place rel found (enforceable_hands_on metas program p.evaluable.well place rel p.enforceable found direction)) roots b source has)
          (Contains-to_filter (λ w. not (is_target_variable program rel w)) rel.universal v (ap not outside) universal) in
          (values.Val x.value, datum_from b v x.value x.at)

  -- a call gives the roots of all domains
  root_told : (from : Entry) (c : EntryName) (frel rel : Rel) (from_found : slice_get program.rels from.rel ≡ Some frel) → Contains (entry_calls program models from) c → slice_get program.rels c.rel ≡ Some rel
      → (dom : Dom) → Contains rel.domains dom → (x : TermValue) × (value_of (root_values rel c.roots) dom.root ≡ Some x)
  root_told from c frel rel from_found within at = subst (λ r. (dom : Dom) → Contains r.domains dom → (x : TermValue) × (value_of (root_values r c.roots) dom.root ≡ Some x)) same handed
    where
      m : IsCallMade program models (entry_known program models frel from.values) frel.wheres c
      m = where_made program models from frel c from_found within

      same : m.called ≡ rel
      same = same_called m.called rel (sym m.found ∙ at)

      typed : AreGiven metas program frel m.called m.called.domains m.args
      typed =
          let t = typed_call metas program p.evaluable.well from.rel frel from_found c.rel m.args (inr m.there) in
          subst (λ (r : Rel). AreGiven metas program frel r r.domains m.args) (same_called t.called m.called (sym t.found ∙ m.found)) t.given

      long : length m.xs ≡ length m.called.domains
      long =
          given_long (given_value program models (entry_known program models frel from.values)) m.args m.xs m.given
          ∙ as_many metas program frel m.called m.called.domains m.args typed

      range : (dom : Dom) → Contains m.called.domains dom → dom.root < length m.called.vars
      range = (p.evaluable.well.numbers.relations m.called (contains_at program.rels c.rel m.called m.found)).roots

      handed : (dom : Dom) → Contains m.called.domains dom → (x : TermValue) × (value_of (root_values m.called c.roots) dom.root ≡ Some x)
      handed dom there =
          let (x, is) = root_given (no_values m.called) m.called.domains m.xs long (λ d among. subst (λ n. d.root < n) (sym (none_long (length m.called.vars) None)) (range d among)) dom there in
          (x, ap (λ ys. value_of (root_values m.called ys) dom.root) m.roots ∙ bound_same m.called range m.xs long dom.root ∙ is)

  called_told : (e : Entry) (rel : Rel) → IsEntry program models e → slice_get program.rels e.rel ≡ Some rel → e.called ≡ true → (dom : Dom) → Contains rel.domains dom → (x : TermValue) × (value_of e.values dom.root ≡ Some x)
  called_told e other (IsEntry.of_top _ number rel matches top entry more) found called dom there = absurd (true≢false (sym called ∙ ap (λ (y : Entry). y.called) entry.is))
  called_told e other (IsEntry.of_call _ from c rel matches is_from within at entry more) found called dom there =
      let (frel, from_found) = call_found metas program models p.evaluable p.enforceable from c within in
      let same : rel ≡ other = same_called rel other (sym at ∙ ap (slice_get program.rels) (sym (ap (λ (y : Entry). y.rel) entry.is)) ∙ found) in
      let (x, is) = root_told from c frel rel from_found within at dom (subst (λ (r : Rel). Contains r.domains dom) (sym same) there) in
      (x, entry.source.extends dom.root x is)

  pub given_told : (e : Entry) (rel : Rel) → IsEntry program models e → slice_get program.rels e.rel ≡ Some rel → (v : ℕ) → IsGiven program rel e.called v → (x : TermValue) × (value_of e.values v ≡ Some x)
  given_told e rel entry found v (inl universal) =
      let r = entry_rooted metas program models p.evaluable p.enforceable e entry rel found in
      universal_told e.rel rel found r.direction r.roots e.values r.source r.has v universal
  given_told e rel entry found v (inr (called, root)) =
      let (x, is) = called_told e rel entry found called root.dom root.of.is in (x, ap (value_of e.values) (sym root.root) ∙ is)

  some_there : (o : Option TermValue) → is_some o ≡ true → (x : TermValue) × (o ≡ Some x)
  some_there None h = absurd (true≢false (sym h))
  some_there (Some x) h = (x, refl)

  -- an entry has values of the variables that are given
  pub values_given : (e : Entry) (rel : Rel) → IsEntry program models e → slice_get program.rels e.rel ≡ Some rel → (v : ℕ) → IsSome (value_of e.values v) ↔ IsGiven program rel e.called v
  values_given e rel entry found v = (
    λ some. let (x, is) = some_there (value_of e.values v) some in told_given e rel entry found v x is,
    λ given. let (x, is) = given_told e rel entry found v given in ap (λ o. is_some o) is,
  )

  -- ---- what it makes

  made_of : (e : Entry) (rel : Rel) → IsEntry program models e → slice_get program.rels e.rel ≡ Some rel → e.made ≡ made_values program models rel e.values
  made_of e other (IsEntry.of_top _ number rel matches top entry more) found =
      let same : rel ≡ other = same_called rel other (sym top.is ∙ ap (slice_get program.rels) (sym (ap (λ (y : Entry). y.rel) entry.is)) ∙ found) in
      ap (λ (y : Entry). y.made) entry.is ∙ ap (λ r. made_values program models r e.values) same
  made_of e other (IsEntry.of_call _ from c rel matches is_from within at entry more) found =
      let same : rel ≡ other = same_called rel other (sym at ∙ ap (slice_get program.rels) (sym (ap (λ (y : Entry). y.rel) entry.is)) ∙ found) in
      ap (λ (y : Entry). y.made) entry.is ∙ ap (λ r. made_values program models r e.values) same

  module _ (m : ModelData) (target : slice_get models program.target ≡ Some m) (valid : Valid m) (entries : List Entry) (are : AreEntries program models entries)
      (all_met : EntriesAreMet program models) where
    metamodel : target_metamodel program models ≡ m.meta
    metamodel = ap (λ (x : Option ModelData). option_map_or (λ n. n.meta) x no_metamodel) target

    over : AreOver metas program models models m
    over =
        let described = over_described metas program models m p.evaluable target in
        record {
          enforceable = p.enforceable;
          evaluable = p.evaluable;
          over_sources = p.evaluable;
          others = λ k other. refl;
          target = target;
          metamodel = metamodel;
          valid = valid;
          tells = tells_enforced metas program models m entries (record {
            evaluable = p.evaluable;
            enforceable = p.enforceable;
            metamodel = metamodel;
            described = described.0;
            well = described.1;
            are = are;
            met = all_met;
          });
        }

    module _ (e : Entry) (rel : Rel) (entry : IsEntry program models e) (found : slice_get program.rels e.rel ≡ Some rel)
        (v : ℕ) (within : v < length rel.vars) where
      told_or_made : (o : Option TermValue) → value_of e.values v ≡ o → value_of e.made v ≡ (if is_some o then None else value_of (entry_known program models rel e.values).values v)
      told_or_made o is =
          ap (λ b. value_of b v) (made_of e rel entry found)
          ∙ variables_at (λ w. if is_some (value_of e.values w) then None else value_of (entry_known program models rel e.values).values w) rel v within
          ∙ ap (λ q. if is_some q then None else value_of (entry_known program models rel e.values).values v) is

      pub made_others : IsSome (value_of e.made v) ↔ (¬ IsGiven program rel e.called v)
      made_others = (to, from)
        where
          to : IsSome (value_of e.made v) → IsGiven program rel e.called v → ⊥
          to some given =
              let (x, is) = given_told e rel entry found v given in
              true≢false (sym some ∙ ap (λ o. is_some o) (told_or_made (Some x) is))

          from_by : (o : Option TermValue) → value_of e.values v ≡ o → (¬ IsGiven program rel e.called v) → IsSome (value_of e.made v)
          from_by (Some x) is not_given = absurd (not_given (told_given e rel entry found v x is))
          from_by None is not_given =
              let r = entry_rooted metas program models p.evaluable p.enforceable e entry rel found in
              let (x, known) = all_known metas program models models m over e.rel rel found r.direction r.roots e.values r.source r.has (all_met e rel entry found) v within in
              ap (λ o. is_some o) (told_or_made None is ∙ known)

          from : (¬ IsGiven program rel e.called v) → IsSome (value_of e.made v)
          from = from_by (value_of e.values v) refl
