-- One more top relation: what was found for it stands behind what was found before, in a table that has grown.
use Rattle.std.specs.Prelude.{◌≡◌, ◌≢◌, ◌⊎◌, ◌<◌, ℕ, false, List, [], ◌∷◌, ◌++◌, map, length, Some, slice_get, Contains, All, AllPairs}
use Rattle.std.specs.List.{flat_map}
use Rattle.std.proofs.Common.{sym, ap, ap₂, subst, ◌∙◌, inl, inr, arith}
use Rattle.std.proofs.lemmas.List.{map-append}
use Rattle.std.proofs.lemmas.List.Concat.{flat_map-append}
use Rattle.std.proofs.lemmas.List.Elements.{All-append, All-nil, Contains-append_cases}
use Rattle.mof_metamodel.specs.declared.desc.MetaDesc.{MetaDesc}
use Rattle.std.proofs.lemmas.Option.{same_Some}
use Rattle.mof_metamodel.proofs.Facts.{nothing_in, contains_first, contains_at, contains_map}
use Rattle.object_tables.specs.Models.{ModelData}
use Rattle.qv_syntax.specs.declared.program.Program.{Program}
use Rattle.qv_syntax.specs.declared.program.Rel.{Rel}
use Rattle.qv_syntax.specs.declared.program.Dom.{Dom}
use Rattle.qv_syntax.specs.WellFormed.{IsWellFormed}
use Rattle.qvtr_semantics.specs.Satisfaction.{IsTop}
use Rattle.template_match.proofs.ListLaws.{contains_later}
use Rattle.repair_semantics.specs.declared.term.Term.{Term}
use Rattle.repair_semantics.specs.declared.entry.Entry.{Entry}
use Rattle.repair_semantics.specs.declared.entry.EntryName.{EntryName}
use Rattle.repair_semantics.specs.EntryValues.{no_values}
use Rattle.repair_semantics.specs.Entries.{entry_calls}
use Rattle.term_table.specs.TermTables.{IsGrown}
use Rattle.entry_making.specs.CallNumbers.{call_of}
use Rattle.entry_bindings.specs.Matches.{names_in, AreNamesOf}
use Rattle.entry_bindings.proofs.PairLaws.{AllLater, later_from_pairs, pairs_from_later}
use Rattle.entry_finding.specs.declared.numbered_entry.NumberedEntry.{NumberedEntry}
use Rattle.entry_finding.specs.declared.found.Found.{Found}
use Rattle.entry_finding.specs.declared.found.UnmetEntry.{UnmetEntry}
use Rattle.entry_finding.specs.Found.{entry_in, entries_in, is_entry_unmet, IsEntryWithin, IsCallWithin, MakesDemands, IsEntryAmong, AreFound}
use Rattle.entry_finding.proofs.GrownLaws.{names_grown, matches_stay, calls_grown, calls_stay, entries_grown, entries_stay, all_demands_grown}
use Rattle.entry_tops.specs.declared.tops.Tops.{Tops}
use Rattle.entry_tops.specs.Tops.{AreTopsFound, IsUnmetTop}
use Rattle.entry_tops.specs.TopOrder.{IsNoHigher, AreTopsInOrder}
use Rattle.entry_tops.specs.Steps.{IsWithFound, IsWithRelation, IsUnmetWith, AreTopsOf, AreTopsUpTo}
use Rattle.entry_tops.proofs.TopLaws.{none_done, all_done, own_entry, own_called, own_rel, one_more}
use Rattle.entry_tops.proofs.NameLaws.{names_after, matches_within}

-- ---- lists

later_joined : {X : Type 0} (R : X → X → Type 0) (xs ys : List X) → AllLater R xs → AllLater R ys → ((x y : X) → Contains xs x → Contains ys y → R x y) → AllLater R (xs ++ ys)
later_joined R [] ys one other across = other
later_joined {X} R (x ∷ xs) ys one other across =
    (λ y there. by y (Contains-append_cases xs ys y there), later_joined R xs ys one.1 other (λ z y there within. across z y (contains_later z x xs there) within))
  where
    by : (y : X) → Contains xs y ⊎ Contains ys y → R x y
    by y (inl h) = one.0 y h
    by y (inr h) = across x y (contains_first x xs) h

pub pairs_joined : {X : Type 0} (R : X → X → Type 0) (xs ys : List X) → AllPairs R xs → AllPairs R ys → ((x y : X) → Contains xs x → Contains ys y → R x y) → AllPairs R (xs ++ ys)
pairs_joined R xs ys one other across = pairs_from_later R (xs ++ ys) (later_joined R xs ys (later_from_pairs R xs one) (later_from_pairs R ys other) across)

-- ---- none is done

module _ (metas : List MetaDesc) (program : Program) (formed : IsWellFormed metas program) (models : List ModelData) where
  pub no_tops : (terms : List Term) (tops : Tops) → tops.entries ≡ [] → tops.calls ≡ [] → tops.matches ≡ [] → AreTopsUpTo program models terms [] tops
  no_tops terms tops no_entries no_calls no_matches =
      let none : entries_in terms tops.entries ≡ [] = ap (entries_in terms) no_entries in
      record {
        are = subst (AreTopsOf program models []) (sym none) (none_done metas program formed models);
        names = λ c. (
          λ there. absurd (nothing_in c (subst (λ ms. Contains (names_in terms ms) c) no_matches there)),
          λ there. absurd (nothing_in there.0 (subst (λ es. Contains es there.0) none there.1)),
        );
        names_within = λ m x there. absurd (nothing_in m (subst (λ ms. Contains ms m) no_matches there));
        distinct = λ i j d before less. absurd (omega (arith, less, ap length none));
        met = λ e there. absurd (nothing_in e (subst (λ es. Contains es e) none there));
        calls = ap (map (call_of terms)) no_calls ∙ sym (ap (flat_map (entry_calls program models)) none);
        demands = subst (All (MakesDemands program models terms)) (sym no_entries) (All-nil (MakesDemands program models terms));
        within = subst (All (IsEntryWithin terms)) (sym no_entries) (All-nil (IsEntryWithin terms));
        calls_within = subst (All (IsCallWithin terms)) (sym no_calls) (All-nil (IsCallWithin terms));
      }

  -- ---- the table grows

  pub tops_grown : (a b : List Term) (done : List ℕ) (tops : Tops) → IsGrown a b → AreTopsUpTo program models a done tops → AreTopsUpTo program models b done tops
  tops_grown a b done tops g up =
      let same : entries_in a tops.entries ≡ entries_in b tops.entries = sym (entries_grown a b g tops.entries up.within) in
      let names : names_in a tops.matches ≡ names_in b tops.matches = sym (names_grown a b g tops.matches up.names_within) in
      record {
        are = subst (AreTopsOf program models done) same up.are;
        names = subst (λ es. AreNamesOf program (names_in b tops.matches) es) same (subst (λ ns. AreNamesOf program ns (entries_in a tops.entries)) names up.names);
        names_within = matches_stay a b g tops.matches up.names_within;
        distinct = subst (AllPairs (λ d e. d ≢ e)) same up.distinct;
        met = λ e there. up.met e (subst (λ es. Contains es e) (sym same) there);
        calls = calls_grown a b g tops.calls up.calls_within ∙ up.calls ∙ ap (flat_map (entry_calls program models)) same;
        demands = all_demands_grown a b g program models tops.entries up.within up.demands;
        within = entries_stay a b g tops.entries up.within;
        calls_within = calls_stay a b g tops.calls up.calls_within;
      }

  -- ---- one more

  roots_below : (number : ℕ) (rel : Rel) → slice_get program.rels number ≡ Some rel → (dom : Dom) → Contains rel.domains dom → dom.root < length rel.vars
  roots_below number rel found dom there = (formed.numbers.relations rel (contains_at program.rels number rel found)).roots dom there

  module _ (terms : List Term) (done : List ℕ) (before : Tops) (up : AreTopsUpTo program models terms done before) (number : ℕ) (rel : Rel) (top : IsTop program number rel)
      (higher : (m : ℕ) → Contains done m → IsNoHigher program m number) (new : (m : ℕ) → Contains done m → m ≢ number) where
    abbrev old : List Entry
    old = entries_in terms before.entries

    own_of : (e : Entry) → IsEntryAmong program models (names_in terms before.matches) number false (no_values rel) e → (e.rel ≡ number) × (e.called ≡ false)
    own_of e among = (
      own_rel metas program formed models old (names_in terms before.matches) up.names number rel top e among,
      own_called metas program formed models old (names_in terms before.matches) up.names number rel top e among,
    )

    module _ (found : Found) (are : AreFound program models terms (names_in terms before.matches) number false (no_values rel) found) where
      abbrev mine : List Entry
      mine = entries_in terms found.entries

      own : (e : NumberedEntry) → Contains found.entries e → (e.rel ≡ number) × (e.called ≡ false)
      own e there = own_of (entry_in terms e) ((are.exact (entry_in terms e)).0 (contains_map (entry_in terms) found.entries e there))

      across : (d e : Entry) → Contains old d → Contains mine e → d ≢ e
      across d e in_old in_mine same =
          new d.rel (up.are.of_done d in_old) (ap (λ (x : Entry). x.rel) same ∙ (own_of e ((are.exact e).0 in_mine)).0)

      met_by : (e : Entry) → Contains old e ⊎ Contains mine e → is_entry_unmet program models e ≡ false
      met_by e (inl in_old) = up.met e in_old
      met_by e (inr in_mine) = are.met e in_mine

      with_found : (after : Tops) → IsWithFound rel.domains found before after → AreTopsUpTo program models terms (done ++ number ∷ []) after
      with_found after put =
          let both : entries_in terms after.entries ≡ old ++ mine = ap (entries_in terms) put.entries ∙ map-append (entry_in terms) before.entries found.entries in
          record {
            are = subst (AreTopsOf program models (done ++ number ∷ [])) (sym both)
                (one_more metas program formed models old (names_in terms before.matches) up.names number rel top done mine up.are higher are.exact);
            names = subst (AreNamesOf program (names_in terms after.matches)) (sym both)
                (names_after program terms number rel top.is (roots_below number rel top.is) before.matches after.matches old found.entries up.names put.matches own);
            names_within = matches_within terms rel.domains found.entries before.matches after.matches up.names_within are.within put.matches;
            distinct = subst (AllPairs (λ d e. d ≢ e)) (sym both) (pairs_joined (λ d e. d ≢ e) old mine up.distinct are.distinct across);
            met = λ e there. met_by e (Contains-append_cases old mine e (subst (λ (es : List Entry). Contains es e) both there));
            calls = ap (map (call_of terms)) put.calls
                ∙ map-append (call_of terms) before.calls found.calls
                ∙ ap₂ (λ (xs ys : List EntryName). xs ++ ys) up.calls are.calls
                ∙ sym (flat_map-append (entry_calls program models) old mine)
                ∙ sym (ap (flat_map (entry_calls program models)) both);
            demands = subst (All (MakesDemands program models terms)) (sym put.entries) (All-append (MakesDemands program models terms) before.entries found.entries up.demands are.demands);
            within = subst (All (IsEntryWithin terms)) (sym put.entries) (All-append (IsEntryWithin terms) before.entries found.entries up.within are.within);
            calls_within = subst (All (IsCallWithin terms)) (sym put.calls) (All-append (IsCallWithin terms) before.calls found.calls up.calls_within are.calls_within);
          }

    pub with_relation : (after : Tops) → IsWithRelation program models terms number before after → AreTopsUpTo program models terms (done ++ number ∷ []) after
    with_relation after step =
        let same : step.rel ≡ rel = same_Some step.rel rel (sym step.at ∙ top.is) in
        with_found step.found (subst (λ (r : Rel). AreFound program models terms (names_in terms before.matches) number false (no_values r) step.found) same step.are) after
        (subst (λ (r : Rel). IsWithFound r.domains step.found before after) same step.put)

    pub unmet_top : (u : UnmetEntry) → IsUnmetWith program models terms number before u → IsUnmetTop program models terms u
    unmet_top u is =
        let same : is.rel ≡ rel = same_Some is.rel rel (sym is.at ∙ top.is) in
        let among = subst (λ (r : Rel). IsEntryAmong program models (names_in terms before.matches) number false (no_values r) (entry_in terms u.entry)) same is.among.among in
        record {
          is = own_entry metas program formed models old (names_in terms before.matches) up.names number rel top (λ m within. (up.are.only m within).0) (entry_in terms u.entry) among;
          top = (own_of (entry_in terms u.entry) among).1;
          place = is.among.place;
          within = is.among.within;
        }

  -- ---- all are done

  pub all_found : (terms : List Term) (order : List ℕ) (tops : Tops) → AreTopsInOrder program order → AreTopsUpTo program models terms order tops → AreTopsFound program models terms tops
  all_found terms order tops is up = record {
    only = up.are.only;
    all = all_done metas program formed models order (entries_in terms tops.entries) is up.are;
    names = up.names;
    names_within = up.names_within;
    distinct = up.distinct;
    met = up.met;
    calls = up.calls;
    demands = up.demands;
    within = up.within;
    calls_within = up.calls_within;
  }
