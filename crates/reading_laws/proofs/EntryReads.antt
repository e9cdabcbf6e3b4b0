-- Bindings over the models that meet the source of a relation, and whose calls match, are read from entries, however many calls in when clauses
-- may be made within one another.
use Rattle.std.specs.Prelude.{◌≡◌, ◌⊎◌, ◌<◌, ℕ, zero, suc, Bool, true, false, List, map, length, Option, None, Some, is_some, slice_get, Contains, if◌then◌else◌}
use Rattle.std.proofs.Common.{refl, sym, ap, subst, ◌∙◌, inl, inr}
use Rattle.std.proofs.lemmas.Bool.{true≢false, eq-eqb}
use Rattle.std.proofs.lemmas.List.FromFn.{length-map-range_with_len}
use Rattle.mof_metamodel.specs.declared.desc.MetaDesc.{MetaDesc}
use Rattle.object_tables.specs.Models.{ModelData}
use Rattle.qv_syntax.specs.declared.typed.Typed.{Typed}
use Rattle.qv_syntax.specs.declared.program.Program.{Program}
use Rattle.qv_syntax.specs.declared.program.Rel.{Rel}
use Rattle.qv_syntax.specs.declared.program.Dom.{Dom}
use Rattle.qv_syntax.specs.Relations.{IsUniversal, OccursInTemplates, CallsIn}
use Rattle.qv_syntax.specs.WellFormed.{IsWellFormed}
use Rattle.qvtr_semantics.specs.declared.datum.Datum.{Datum}
use Rattle.qvtr_semantics.specs.Templates.{Values, value_at}
use Rattle.qvtr_semantics.specs.Bindings.{is_model, Target}
use Rattle.qvtr_semantics.specs.Calls.{RelationCall, AllAsked, Of, SourceMatches, TargetHolds, HoldsWithin, MatchesWithin, free, call_of, calls_of}
use Rattle.qvtr_semantics.specs.Satisfaction.{IsTop}
use Rattle.template_match.specs.Sources.{is_target_variable}
use Rattle.template_match.proofs.ValueLaws.{within_values}
use Rattle.enforcement_rules.specs.Calls.{HasUnmatchedCall}
use Rattle.enforcement_rules.specs.Rules.{Breaks}
use Rattle.source_laws.proofs.RuleLaws.{target_is}
use Rattle.source_laws.proofs.RootLaws.{typed_call}
use Rattle.source_laws.proofs.BindingLaws.{found_within}
use Rattle.mof_metamodel.proofs.Facts.{contains_at}
use Rattle.repair_semantics.specs.declared.term.Term.{Term}
use Rattle.repair_semantics.specs.declared.term.TermValue.{TermValue}
use Rattle.repair_semantics.specs.declared.entry.Entry.{Entry}
use Rattle.repair_semantics.specs.declared.entry.EntryName.{EntryName}
use Rattle.repair_semantics.specs.EntryValues.{TermValues, value_of, no_values, root_values}
use Rattle.repair_semantics.specs.Making.{variables}
use Rattle.repair_semantics.specs.Entries.{TermSource, entry_of, IsEntry, entry_calls}
use Rattle.reading_laws.specs.Readings.{Numbering, Reads}
use Rattle.reading_laws.proofs.CallValues.{none_some, ReadsOne, one_at, read_some, all_at, AreFit}
use Rattle.reading_laws.proofs.CallRoots.{none_long, roots_long}
use Rattle.reading_laws.proofs.CallFits.{none_at, none_fit}
use Rattle.reading_laws.proofs.CallReads.{free_reads}
use Rattle.reading_laws.proofs.EntryKnown.{variables_at, variables_within, within_long, target_root}
use Rattle.reading_laws.proofs.EntryFacts.{called_fit}
use Rattle.reading_laws.proofs.EntryPicks.{IsAsked}
use Rattle.reading_laws.proofs.EntryGround.{Ground}
use Rattle.reading_laws.proofs.CallMade.{to_rel, to_root, asked_of}
use Rattle.reading_laws.proofs.EntryMatches.{facts_of, Matched}
use Rattle.reading_laws.proofs.EntrySources.{Given, ReadSource, read_from}
use Rattle.qvtr_semantics.specs.declared.limits.TheConstants.{MAX_CALLS}

module _ (program : Program) (number : Numbering) (rel : Rel) (b : TermValues) (b_long : length b ≡ length rel.vars) (c : Values)
    (reads : (v : ℕ) (x : TermValue) → value_of b v ≡ Some x → ReadsOne program number (Some x) (value_at c v)) where
  -- the values of those variables that have one in the binding of terms
  cut : Values
  cut = map (λ v. if is_some (value_of b v) then value_at c v else None) (variables rel)

  cut_at : (v : ℕ) → v < length rel.vars → value_at cut v ≡ (if is_some (value_of b v) then value_at c v else None)
  unfolding cut
  cut_at v less = variables_at (λ w. if is_some (value_of b w) then value_at c w else None) rel v less

  cut_some : (v : ℕ) (x : TermValue) → value_of b v ≡ Some x → value_at cut v ≡ value_at c v
  cut_some v x at =
      cut_at v (subst (λ n. v < n) b_long (within_long b v x at)) ∙ ap (λ (o : Option TermValue). if is_some o then value_at c v else None) at

  cut_from : (v : ℕ) (d : Datum) → value_at cut v ≡ Some d → (x : TermValue) × (value_of b v ≡ Some x) × (value_at c v ≡ Some d)
  unfolding cut
  cut_from v d at = by (value_of b v) refl (sym (cut_at v (variables_within (λ w. if is_some (value_of b w) then value_at c w else None) rel v d at)) ∙ at)
    where
      by : (o : Option TermValue) → value_of b v ≡ o → (if is_some o then value_at c v else None) ≡ Some d → (x : TermValue) × (value_of b v ≡ Some x) × (value_at c v ≡ Some d)
      by None is h = absurd (none_some d h)
      by (Some x) is h = (x, is, h)

  cut_long : length cut ≡ length rel.vars
  unfolding cut
  cut_long = length-map-range_with_len (λ v. if is_some (value_of b v) then value_at c v else None) 0 (length rel.vars)

  cut_reads : Reads program number b cut
  cut_reads = all_at program number b cut (cut_long ∙ sym b_long) (λ v. by v (value_of b v) (value_at cut v) refl refl)
    where
      by : (v : ℕ) (o : Option TermValue) (p : Option Datum) → value_of b v ≡ o → value_at cut v ≡ p → ReadsOne program number (value_of b v) (value_at cut v)
      by v (Some x) p is at =
          subst (λ q. ReadsOne program number q (value_at cut v)) (sym is) (subst (ReadsOne program number (Some x)) (sym (cut_some v x is)) (reads v x is))
      by v None (Some d) is at = let x = cut_from v d at in absurd (none_some x.0 (sym is ∙ x.1))
      by v None None is at = subst (λ q. ReadsOne program number q (value_at cut v)) (sym is) (subst (ReadsOne program number None) (sym at) tt)

module _ (metas : List MetaDesc) (program : Program) (sources models : List ModelData) (m : ModelData) (terms : List Term) (number : Numbering)
    (ground : Ground metas program sources models m terms number) where
  abbrev formed : IsWellFormed metas program
  formed = ground.over.evaluable.well

  abbrev GivenAt : ℕ → Rel → TermValues → Values → Type 0
  GivenAt place rel roots c = Given metas program sources models m terms number ground place rel roots c

  abbrev ReadAt : Rel → TermValues → Values → Type 0
  ReadAt rel roots c = ReadSource metas program sources models m terms number ground rel roots c

  abbrev MatchedAt : Values → ℕ → List Typed → Type 0
  MatchedAt c n args = Matched metas program sources models m terms number ground c n args

  -- a binding over the models is read, where so many calls in when clauses may be made within one another
  abbrev Reader : ℕ → Type 0
  Reader s = (place : ℕ) (rel : Rel) (roots : TermValues) (c : Values) → GivenAt place rel roots c → AllAsked (MatchesWithin program models s) (calls_of program models c rel.whens) → ReadAt rel roots c

  -- a relation that is called in a when clause is top, and of the direction
  pub top_called : (place : ℕ) (rel : Rel) → slice_get program.rels place ≡ Some rel → rel.in_direction ≡ true → (n : ℕ) (called : Rel) → CallsIn rel.whens n → slice_get program.rels n ≡ Some called
      → IsTop program n called
  top_called place rel found towards n called calls at = by called.top called.in_direction refl refl
    where
      broken : ¬ ((called.top ≡ true) × (called.in_direction ≡ true)) → ⊥
      broken other = ground.over.enforceable place 9 (record { rel = rel; found = found; in_direction = towards; breaks = Breaks.e9 refl (HasUnmatchedCall.called n called calls at other) })

      by : (t d : Bool) → called.top ≡ t → called.in_direction ≡ d → IsTop program n called
      by true true top direction = record { is = at; top = top; in_direction = direction }
      by true false top direction = absurd (broken (λ both. true≢false (sym both.1 ∙ direction)))
      by false d top direction = absurd (broken (λ both. true≢false (sym both.0 ∙ top)))

  -- ---- matches

  -- the entry of a match, and a binding of which it is read that has the partner
  pub record MatchEntry (n : ℕ) (rel : Rel) (g : Values) : Type 0 where
    pub b : TermValues
    pub entry : IsEntry program sources (entry_of program sources n rel false b)
    pub c : Values
    pub reads : Reads program number b c
    pub target : Target program models rel c g

  pub match_entry : (s : ℕ) → Reader s → (n : ℕ) (rel : Rel) → IsTop program n rel → (roots c g : Values)
      → ((v : ℕ) (d : Datum) → value_at roots v ≡ Some d → (dom : Dom) × Contains rel.domains dom × (dom.root ≡ v))
      → SourceMatches (MatchesWithin program models s) program models rel roots c → Target program models rel c g → MatchEntry n rel g
  match_entry s read n rel top roots c g root_at source target = record {
    b = rs.b;
    entry = IsEntry.of_top (entry_of program sources n rel false rs.b) n rel rs.matches top (record { source = rs.source; whens = rs.are; is = refl }) rs.entries;
    c = cut program number rel rs.b rs.source.places c at_b;
    reads = cut_reads program number rel rs.b rs.source.places c at_b;
    target = record {
      places = target.places;
      extends = λ v d at. let x = cut_from program number rel rs.b rs.source.places c at_b v d at in target.extends v d x.2;
      no_others = λ v d at. kept v d (target.no_others v d at);
      meets = target.meets;
    };
  }
    where
      universal_at : (v : ℕ) → v < length rel.vars → IsUniversal program rel v → Contains rel.universal v
      universal_at v less u = let var = found_within rel.vars v less in ((formed.relations n rel top.is).variables.universal v var.0 var.1).1 u

      root_universal : (v : ℕ) (dom : Dom) → Contains rel.domains dom → dom.root ≡ v → is_target_variable program rel v ≡ false → (b : Bool) → is_model dom.model program.target ≡ b → Contains rel.universal v
      root_universal v dom there is outside true target =
          absurd (true≢false (sym (target_root metas program formed ground.over.enforceable sources n rel top.is top.in_direction dom (record { is = there; target = target_is program.target dom.model target }))
          ∙ ap (is_target_variable program rel) is ∙ outside))
      root_universal v dom there is outside false other =
          universal_at v (subst (λ k. k < length rel.vars) is ((formed.numbers.relations rel (contains_at program.rels n rel top.is)).roots dom there))
          (IsUniversal.domain dom (record { is = there; source = λ same. true≢false (sym (eq-eqb program.target program.target refl) ∙ ap (λ p. is_model p program.target) (sym same) ∙ other) }) (OccursInTemplates.root is))

      others : (v : ℕ) (d : Datum) → value_at c v ≡ Some d → is_target_variable program rel v ≡ false → IsAsked program number terms rel (no_values rel) c v
      others v d at outside = by (source.source.no_others v d at)
        where
          by : Contains rel.universal v ⊎ (value_at roots v ≡ Some d) → IsAsked program number terms rel (no_values rel) c v
          by (inl universal) = inl universal
          by (inr is) = let dom = root_at v d is in inl (root_universal v dom.0 dom.1 dom.2 outside (is_model dom.0.model program.target) refl)

      given : GivenAt n rel (no_values rel) c
      given = record {
        found = top.is;
        towards = top.in_direction;
        roots_fit = none_fit program terms rel;
        roots_long = none_long (length rel.vars) None;
        long = source.source.places;
        roots_read = λ v x at. absurd (none_some x (sym (none_at (length rel.vars) v) ∙ at));
        others = others;
        meets = source.source.meets;
      }

      rs : ReadAt rel (no_values rel) c
      rs = read n rel (no_values rel) c given source.whens

      at_b : (v : ℕ) (x : TermValue) → value_of rs.b v ≡ Some x → ReadsOne program number (Some x) (value_at c v)
      at_b v x is = subst (λ o. ReadsOne program number o (value_at c v)) is (rs.reads v (rs.asked v x is))

      kept : (v : ℕ) (d : Datum) → Contains rel.existential v ⊎ (value_at c v ≡ Some d) → Contains rel.existential v ⊎ (value_at (cut program number rel rs.b rs.source.places c at_b) v ≡ Some d)
      kept v d (inl existential) = inl existential
      kept v d (inr at) = by (value_of rs.b v) refl
        where
          less : v < length rel.vars
          less = subst (λ k. v < k) source.source.places (within_values c v d at)

          by : (o : Option TermValue) → value_of rs.b v ≡ o → Contains rel.existential v ⊎ (value_at (cut program number rel rs.b rs.source.places c at_b) v ≡ Some d)
          by (Some x) is = inr (cut_some program number rel rs.b rs.source.places c at_b v x is ∙ at)
          by None is =
              let var = found_within rel.vars v less in
              inl (((formed.relations n rel top.is).variables.existential v var.0 var.1).1
              (λ u. subst (λ q. ReadsOne program number None q) at (subst (λ q. ReadsOne program number q (value_at c v)) is (rs.reads v (inl (universal_at v less u))))))

  abbrev Within : ℕ → RelationCall → Rel → Type 0
  Within s to rel = (b : Values) × (g : Values) × SourceMatches (MatchesWithin program models s) program models rel to.roots b
      × TargetHolds (HoldsWithin (MatchesWithin program models s) program models MAX_CALLS) program models rel b g

  matched_by : (s : ℕ) → Reader s → (c : Values) (n : ℕ) (args : List Typed) (to : RelationCall) (called : Rel) → call_of program models c n args ≡ Some to → IsTop program n called
      → MatchesWithin program models (suc s) to → MatchedAt c n args
  matched_by s read c n args to called made top match =
      let found : slice_get program.rels to.rel ≡ Some called = ap (slice_get program.rels) (to_rel program models c n args to made) ∙ top.is in
      let w : Within s to called = subst (λ o. Of o (Within s to)) found match in
      let e = match_entry s read n called top to.roots w.0 w.1 (to_root program models c n args to called made top.is) w.2 w.3.target in
      record {
        to = to;
        made = made;
        e = entry_of program sources n called false e.b;
        is = e.entry;
        top = refl;
        number_is = refl;
        rel = called;
        found = top.is;
        g = w.1;
        reads = ground.partners (entry_of program sources n called false e.b) called e.entry top.is e.c w.1 e.reads e.target;
        extends = λ v d at. w.3.target.extends v d (w.2.source.extends v d at);
      }

  pub read_source : (s : ℕ) → Reader s
  read_source zero place rel roots c given all =
      read_from metas program sources models m terms number ground place rel roots c given
      (λ n args within. let x = asked_of (MatchesWithin program models zero) program models c rel.whens all n args within in absurd x.2)
  read_source (suc s) place rel roots c given all =
      read_from metas program sources models m terms number ground place rel roots c given
      (λ n args within.
      let x = asked_of (MatchesWithin program models (suc s)) program models c rel.whens all n args within in
      let typed = typed_call metas program formed place rel given.found n args (inl within) in
      matched_by s (read_source s) c n args x.0 typed.called x.1 (top_called place rel given.found given.towards n typed.called (args, within) typed.found) x.2)

  -- ---- entries

  -- the entry of which a binding over the models is read
  pub record ReadEntry (place : ℕ) (rel : Rel) (called : Bool) (roots : TermValues) (c : Values) : Type 0 where
    pub b : TermValues
    pub reads : Reads program number b c
    pub source : TermSource program sources rel roots b
    pub entry : IsEntry program sources (entry_of program sources place rel called b)

  module _ (place : ℕ) (rel : Rel) (found : slice_get program.rels place ≡ Some rel) (towards : rel.in_direction ≡ true) (roots : TermValues) (roots_fit : AreFit program terms rel roots)
      (roots_long : length roots ≡ length rel.vars) (these : Values) (roots_reads : Reads program number roots these) (s : ℕ) (c : Values)
      (source : SourceMatches (MatchesWithin program models s) program models rel these c) where
    asked : (v : ℕ) (d : Datum) → value_at c v ≡ Some d → IsAsked program number terms rel roots c v
    asked v d at = by (source.source.no_others v d at)
      where
        by : Contains rel.universal v ⊎ (value_at these v ≡ Some d) → IsAsked program number terms rel roots c v
        by (inl universal) = inl universal
        by (inr is) =
            let x = read_some program number (value_of roots v) d (subst (ReadsOne program number (value_of roots v)) is (one_at program number roots these roots_reads v)) in
            inr (x.0, x.1)

    root_read : (v : ℕ) (x : TermValue) → value_of roots v ≡ Some x → ReadsOne program number (Some x) (value_at c v)
    root_read v x at =
        let d = roots_reads.given v x at in
        subst (ReadsOne program number (Some x)) (sym (source.source.extends v d.0 d.1)) d.2

    pub source_read : ReadAt rel roots c
    source_read = read_source s place rel roots c (record {
      found = found;
      towards = towards;
      roots_fit = roots_fit;
      roots_long = roots_long;
      long = source.source.places;
      roots_read = root_read;
      others = λ v d at outside. asked v d at;
      meets = source.source.meets;
    }) source.whens

    pub all_read : (rs : ReadAt rel roots c) → Reads program number rs.b c
    all_read rs = all_at program number rs.b c (source.source.places ∙ sym rs.source.places) (λ v. by v (value_of rs.b v) (value_at c v) refl refl)
      where
        by : (v : ℕ) (o : Option TermValue) (p : Option Datum) → value_of rs.b v ≡ o → value_at c v ≡ p → ReadsOne program number (value_of rs.b v) (value_at c v)
        by v (Some x) p is at = rs.reads v (rs.asked v x is)
        by v None (Some d) is at = rs.reads v (asked v d at)
        by v None None is at = subst (λ q. ReadsOne program number q (value_at c v)) (sym is) (subst (ReadsOne program number None) (sym at) tt)

  -- a binding of a top relation is an entry, as it is read
  pub top_entry : (s place : ℕ) (rel : Rel) → IsTop program place rel → (c : Values) → SourceMatches (MatchesWithin program models s) program models rel (free rel) c
      → ReadEntry place rel false (no_values rel) c
  top_entry s place rel top c source =
      let none : Reads program number (no_values rel) (free rel) = all_at program number (no_values rel) (free rel) (none_long (length rel.vars) None ∙ sym (none_long (length rel.vars) None))
      (free_reads program number (length rel.vars)) in
      let rs = source_read place rel top.is top.in_direction (no_values rel) (none_fit program terms rel) (none_long (length rel.vars) None) (free rel) none s c source in
      record {
        b = rs.b;
        reads = all_read place rel top.is top.in_direction (no_values rel) (none_fit program terms rel) (none_long (length rel.vars) None) (free rel) none s c source rs;
        source = rs.source;
        entry = IsEntry.of_top (entry_of program sources place rel false rs.b) place rel rs.matches top (record { source = rs.source; whens = rs.are; is = refl }) rs.entries;
      }

  -- so is one of a relation that an entry calls in its where clause, with the roots of the call as they are read
  pub called_entry : (s : ℕ) (e : Entry) → IsEntry program sources e → (from : EntryName) → Contains (entry_calls program sources e) from → (rel : Rel) → slice_get program.rels from.rel ≡ Some rel
      → (these : Values) → Reads program number (root_values rel from.roots) these → (c : Values) → SourceMatches (MatchesWithin program models s) program models rel these c
      → ReadEntry from.rel rel true (root_values rel from.roots) c
  called_entry s e is from within rel found these reads c source =
      let fits = called_fit metas program formed ground.over.enforceable sources m terms ground.among e (facts_of metas program sources models m terms number ground e is) is from within rel found in
      let long : length (root_values rel from.roots) ≡ length rel.vars = roots_long (no_values rel) rel.domains from.roots ∙ none_long (length rel.vars) None in
      let rs = source_read from.rel rel found fits.0 (root_values rel from.roots) fits.1.fit long these reads s c source in
      record {
        b = rs.b;
        reads = all_read from.rel rel found fits.0 (root_values rel from.roots) fits.1.fit long these reads s c source rs;
        source = rs.source;
        entry = IsEntry.of_call (entry_of program sources from.rel rel true rs.b) e from rel rs.matches is within found (record { source = rs.source; whens = rs.are; is = refl }) rs.entries;
      }
