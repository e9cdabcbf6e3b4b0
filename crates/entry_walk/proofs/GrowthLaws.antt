-- As the table of terms grows, what holds on a walk stays.
use Rattle.std.specs.Prelude.{◌≡◌, ◌≢◌, ◌↔◌, ℕ, false, List, Contains, All, AllPairs}
use Rattle.std.specs.List.{flat_map}
use Rattle.std.proofs.Common.{sym, ap, ap₂, subst, ◌∙◌}
use Rattle.mof_metamodel.proofs.Facts.{contains_at}
use Rattle.object_tables.proofs.ListLemmas.{map-same_all}
use Rattle.object_tables.specs.Models.{ModelData}
use Rattle.qv_syntax.specs.declared.program.Program.{Program}
use Rattle.repair_semantics.specs.declared.term.Term.{Term}
use Rattle.repair_semantics.specs.declared.entry.Entry.{Entry}
use Rattle.repair_semantics.specs.declared.entry.EntryName.{EntryName}
use Rattle.repair_semantics.specs.EntryChains.{CallsNext}
use Rattle.repair_semantics.specs.Entries.{IsEntry, entry_calls}
use Rattle.term_table.specs.TermTables.{IsGrown}
use Rattle.entry_making.specs.declared.numbered_call.NumberedCall.{NumberedCall}
use Rattle.entry_making.specs.CallNumbers.{call_of}
use Rattle.entry_bindings.specs.Matches.{AreNamesOf, names_in}
use Rattle.entry_finding.specs.declared.found.Found.{Found}
use Rattle.entry_finding.specs.Found.{entries_in, is_entry_unmet, IsCallWithin}
use Rattle.entry_finding.proofs.GrownLaws.{names_grown, matches_stay, call_grown, call_stays, calls_grown, calls_stay, entries_stay, entries_grown, all_demands_grown}
use Rattle.entry_tops.specs.declared.tops.Tops.{Tops}
use Rattle.entry_tops.specs.Tops.{IsTopBy, AreTopsFound}
use Rattle.entry_walk.specs.declared.finished.Finished.{Finished}
use Rattle.entry_walk.specs.Walks.{Walked, IsOfCall, IsWhole}
use Rattle.entry_walk.specs.Paths.{path_in, IsPath, LeadsTo}
use Rattle.entry_walk.specs.Explored.{IsExplored}
use Rattle.entry_walk.specs.Walking.{walked_in, walk_in, IsBefore, IsFinished, IsWalking, IsNext, IsNew}
use Rattle.entry_walk.proofs.PlaceLaws.{match_weaker}

abbrev make_walked : ℕ → EntryName → List Entry → Walked
make_walked height c es = record { call = c; entries = es; height = height }

module _ (program : Program) (models : List ModelData) (a b : List Term) (g : IsGrown a b) where
  pub tops_grown : (tops : Tops) → AreTopsFound program models a tops → AreTopsFound program models b tops
  tops_grown tops t = record {
    only = subst (λ es. (e : Entry) → Contains es e → IsEntry program models e × (e.called ≡ false)) same t.only;
    all = subst (λ es. (e : Entry) → IsTopBy program models es e → Contains es e) same t.all;
    names = subst (λ ns. AreNamesOf program ns (entries_in b tops.entries)) (sym (names_grown a b g tops.matches t.names_within))
        (subst (AreNamesOf program (names_in a tops.matches)) same t.names);
    names_within = matches_stay a b g tops.matches t.names_within;
    distinct = subst (AllPairs (λ (d e : Entry). d ≢ e)) same t.distinct;
    met = subst (λ es. (e : Entry) → Contains es e → is_entry_unmet program models e ≡ false) same t.met;
    calls = calls_grown a b g tops.calls t.calls_within ∙ t.calls ∙ ap (flat_map (entry_calls program models)) same;
    demands = all_demands_grown a b g program models tops.entries t.within t.demands;
    within = entries_stay a b g tops.entries t.within;
    calls_within = calls_stay a b g tops.calls t.calls_within;
  }
    where
      same : entries_in a tops.entries ≡ entries_in b tops.entries
      same = sym (entries_grown a b g tops.entries t.within)

  pub explored_grown : (tops : Tops) (c : NumberedCall) (found : Found) → AreTopsFound program models a tops → IsCallWithin a c → IsExplored program models a tops c found → IsExplored program models b tops c found
  explored_grown tops c found t within x = record {
    exact = subst (λ es. (e : Entry) → Contains es e ↔ IsOfCall program models (entries_in b tops.entries) (call_of b c) e) same
        (subst (λ d. (e : Entry) → Contains (entries_in a found.entries) e ↔ IsOfCall program models (entries_in b tops.entries) d e) (sym (call_grown a b g c within))
        (subst (λ ts. (e : Entry) → Contains (entries_in a found.entries) e ↔ IsOfCall program models ts (call_of a c) e) (sym (entries_grown a b g tops.entries t.within)) x.exact));
    distinct = subst (AllPairs (λ (d e : Entry). d ≢ e)) same x.distinct;
    met = subst (λ es. (e : Entry) → Contains es e → is_entry_unmet program models e ≡ false) same x.met;
    calls = calls_grown a b g found.calls x.calls_within ∙ x.calls ∙ ap (flat_map (entry_calls program models)) same;
    demands = all_demands_grown a b g program models found.entries x.within x.demands;
    within = entries_stay a b g found.entries x.within;
    calls_within = calls_stay a b g found.calls x.calls_within;
  }
    where
      same : entries_in a found.entries ≡ entries_in b found.entries
      same = sym (entries_grown a b g found.entries x.within)

  -- ---- calls to which the path leads

  pub next_grown : (path : List NumberedCall) (c : NumberedCall) → All (IsCallWithin a) path → IsNext program models a path c → IsNext program models b path c
  next_grown path c within n = record {
    leads = subst (λ p. LeadsTo program models p (call_of b c)) (sym (calls_grown a b g path within))
        (subst (LeadsTo program models (path_in a path)) (sym (call_grown a b g c n.within)) n.leads);
    within = call_stays a b g c n.within;
  }

  -- ---- the walk

  module _ (tops : Tops) (fs : List Finished) (path : List NumberedCall) (w : IsWalking program models tops a fs path) where
    walked_same : (f : Finished) → Contains fs f → walked_in b f ≡ walked_in a f
    walked_same f there =
        let is = w.finished f there in
        ap₂ (make_walked f.height) (call_grown a b g f.call is.call_within) (entries_grown a b g f.entries is.within)

    pub walk_same : walk_in b fs ≡ walk_in a fs
    walk_same = map-same_all (walked_in b) (walked_in a) fs walked_same

    pub path_same : path_in b path ≡ path_in a path
    path_same = calls_grown a b g path w.path_within

    call_same : (f : Finished) → Contains fs f → call_of b f.call ≡ call_of a f.call
    call_same f there = call_grown a b g f.call (w.finished f there).call_within

    before_grown : (f : Finished) → Contains fs f → (n : ℕ) → IsBefore program models a fs f n → IsBefore program models b fs f n
    before_grown f there n is = record {
      by = is.by;
      at = is.at;
      calls = subst (λ c. CallsNext program models c (call_of b (is.by).call)) (sym (call_same f there))
          (subst (CallsNext program models (call_of a f.call)) (sym (call_same is.by (contains_at fs n is.by is.at))) is.calls);
      height = is.height;
    }

    finished_grown : (f : Finished) → Contains fs f → IsFinished program models b fs f
    finished_grown f there =
        let is = w.finished f there in record {
          linked = match_weaker f.behind (f.height ≡ 0) (f.height ≡ 0) (IsBefore program models a fs f) (IsBefore program models b fs f) (λ e. e) (λ n at before. before_grown f there n before) is.linked;
          distinct = subst (AllPairs (λ (d e : Entry). d ≢ e)) (sym (entries_grown a b g f.entries is.within)) is.distinct;
          demands = all_demands_grown a b g program models f.entries is.within is.demands;
          within = entries_stay a b g f.entries is.within;
          call_within = call_stays a b g f.call is.call_within;
        }

    pub walking_grown : IsWalking program models tops b fs path
    walking_grown = record {
      tops_are = tops_grown tops w.tops_are;
      path_is = subst IsPath (sym path_same) w.path_is;
      path_within = calls_stay a b g path w.path_within;
      finished = finished_grown;
      apart = λ f there on. w.apart f there (subst (Contains (path_in a path)) (call_same f there) (subst (λ p. Contains p (call_of b f.call)) path_same on));
      whole = subst (λ ws. (x : Walked) → Contains ws x → IsWhole program models (entries_in b tops.entries) ws x) (sym walk_same)
          (subst (λ es. (x : Walked) → Contains (walk_in a fs) x → IsWhole program models es (walk_in a fs) x) (sym (entries_grown a b g tops.entries (w.tops_are).within)) w.whole);
      once = subst (AllPairs (λ (x y : Walked). x.call ≢ y.call)) (sym walk_same) w.once;
    }

    pub new_grown : (c : NumberedCall) → IsCallWithin a c → IsNew a fs path c → IsNew b fs path c
    new_grown c within n = record {
      off = λ on. n.off (subst (Contains (path_in a path)) (call_grown a b g c within) (subst (λ p. Contains p (call_of b c)) path_same on));
      unwalked = λ f there same. n.unwalked f there (sym (call_same f there) ∙ same ∙ call_grown a b g c within);
    }
