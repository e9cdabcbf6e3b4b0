-- The steps of a walk: a call comes on the path, and is finished.
use Rattle.std.specs.Prelude.{◌≡◌, ◌≢◌, ◌⊎◌, ◌<◌, ℕ, suc, Some, List, [], ◌∷◌, ◌++◌, map, length, slice_get, Contains, All, AllPairs}
use Rattle.std.specs.List.{flat_map}
use Rattle.std.proofs.Common.{refl, sym, ap, ap₂, subst, ◌∙◌, inl, inr, arith, get_or}
use Rattle.std.proofs.lemmas.List.{length-map}
use Rattle.std.proofs.lemmas.List.Elements.{All-push, All-head, All-tail, Contains-append_cases, Contains-append_left, Contains-append_right}
use Rattle.std.proofs.lemmas.List.Quantifiers.{all_pairs_push}
use Rattle.mof_metamodel.specs.declared.desc.MetaDesc.{MetaDesc}
use Rattle.mof_metamodel.proofs.Facts.{contains_first, contains_map, only_one}
use Rattle.mof_metamodel.proofs.PropLemmas.{to_flat_map, from_flat_map}
use Rattle.object_tables.proofs.ListLemmas.{Contains-from_map}
use Rattle.object_tables.specs.Models.{ModelData}
use Rattle.qv_syntax.specs.declared.program.Program.{Program}
use Rattle.qv_syntax.specs.WellFormed.{IsWellFormed}
use Rattle.qvtr_semantics.specs.declared.limits.TheConstants.{MAX_CALLS}
use Rattle.repair_semantics.specs.declared.term.Term.{Term}
use Rattle.repair_semantics.specs.declared.entry.Entry.{Entry}
use Rattle.repair_semantics.specs.declared.entry.EntryName.{EntryName}
use Rattle.repair_semantics.specs.Entries.{HasRoots, IsEntry, entry_calls}
use Rattle.repair_semantics.specs.EntryChains.{CallsNext}
use Rattle.source_laws.proofs.RootLaws.{same_called}
use Rattle.reading_laws.proofs.EntryTime.{IsRooted, called_rooted, rooted_has}
use Rattle.term_table.specs.declared.numbered.NumberedValue.{NumberedValue}
use Rattle.term_table.specs.TermTables.{value_in, IsWithin, AreDistinct}
use Rattle.term_table.proofs.TermTableLaws.{same_values}
use Rattle.entry_making.specs.declared.numbered_call.NumberedCall.{NumberedCall}
use Rattle.entry_making.specs.CallNumbers.{call_of}
use Rattle.entry_finding.specs.declared.found.Found.{Found}
use Rattle.entry_finding.specs.Found.{entries_in, IsCallWithin}
use Rattle.entry_tops.specs.declared.tops.Tops.{Tops}
use Rattle.entry_tops.specs.Tops.{AreTopsFound}
use Rattle.entry_walk.specs.declared.finished.Finished.{Finished}
use Rattle.entry_walk.specs.declared.ends.Height.{Height}
use Rattle.entry_walk.specs.Walks.{Walked, IsOfCall, IsWalkedBelow, IsWhole}
use Rattle.entry_walk.specs.Paths.{path_in, IsPath, LeadsTo}
use Rattle.entry_walk.specs.FinishedTables.{IsUnfinished, finished_by}
use Rattle.entry_walk.specs.Explored.{IsMade, IsExplored}
use Rattle.entry_walk.specs.Walking.{walked_in, walk_in, IsBefore, IsFinished, IsWalking, IsNext, IsNew, IsHigh}
use Rattle.entry_walk.proofs.PlaceLaws.{place_in, get_left, place_of, last_apart, match_weaker}
use Rattle.entry_walk.proofs.PathLaws.{path_push, path_on, leads_made, leads_on}

-- ---- numbers and what they stand for

same_roots : (a : List Term) → AreDistinct a → (vs ws : List NumberedValue) → All (IsWithin a) vs → All (IsWithin a) ws → map (value_in a) vs ≡ map (value_in a) ws → vs ≡ ws
same_roots a apart [] [] p q h = refl
same_roots a apart [] (w ∷ ws) p q h = absurd (cc)
same_roots a apart (v ∷ vs) [] p q h = absurd (cc)
same_roots a apart (v ∷ vs) (w ∷ ws) p q h =
    let first : value_in a v ≡ value_in a w = cc in
    let rest : map (value_in a) vs ≡ map (value_in a) ws = cc in
    ap (λ x. x ∷ vs) (same_values a v w apart (All-head (IsWithin a) v vs p) (All-head (IsWithin a) w ws q) first)
    ∙ ap (λ xs. w ∷ xs) (same_roots a apart vs ws (All-tail (IsWithin a) v vs p) (All-tail (IsWithin a) w ws q) rest)

abbrev make_call : ℕ → List NumberedValue → NumberedCall
make_call rel roots = record { rel = rel; roots = roots }

-- calls are one where they stand for one
pub calls_one : (a : List Term) → AreDistinct a → (c d : NumberedCall) → IsCallWithin a c → IsCallWithin a d → call_of a c ≡ call_of a d → c ≡ d
calls_one a apart c d p q same =
    ap₂ make_call (ap (λ (x : EntryName). x.rel) same) (same_roots a apart c.roots d.roots p q (ap (λ (x : EntryName). x.roots) same))

-- a call that isn't on the path by number isn't there by its terms
pub off_path : (a : List Term) → AreDistinct a → (path : List NumberedCall) (c : NumberedCall) → ((d : NumberedCall) → Contains path d → IsCallWithin a d) → IsCallWithin a c → ¬ Contains path c
    → Contains (path_in a path) (call_of a c) → ⊥
off_path a apart path c within here off there =
    let d = Contains-from_map (call_of a) path (call_of a c) there in
    off (subst (Contains path) (calls_one a apart d.0 c (within d.0 d.1) here d.2) d.1)

-- nor is one that isn't finished
pub unwalked : (a : List Term) → AreDistinct a → (fs : List Finished) (c : NumberedCall) → ((f : Finished) → Contains fs f → IsCallWithin a f.call) → IsCallWithin a c → IsUnfinished fs c
    → (f : Finished) → Contains fs f → call_of a f.call ≡ call_of a c → ⊥
unwalked a apart fs c within here none f there same =
    let at = place_of fs f there in
    none at.0 (f, at.1, calls_one a apart f.call c (within f there) here same)

-- ---- more has been walked

module _ (walked more : List Walked) where
  below_more : (height : ℕ) (c : EntryName) → IsWalkedBelow walked height c → IsWalkedBelow (walked ++ more) height c
  below_more height c is = record { by = is.by; among = Contains-append_left walked more is.by is.among; call = is.call; lower = is.lower }

  whole_more : (program : Program) (models : List ModelData) (tops : List Entry) (x : Walked) → IsWhole program models tops walked x → IsWhole program models tops (walked ++ more) x
  whole_more program models tops x is = record {
    from = is.from;
    is_from = is.is_from;
    made = is.made;
    exact = is.exact;
    met = is.met;
    calls = λ e c within made. below_more x.height c (is.calls e c within made);
  }

walk_push : (terms : List Term) (fs : List Finished) (f : Finished) → walk_in terms (fs ++ f ∷ []) ≡ walk_in terms fs ++ walked_in terms f ∷ []
walk_push terms [] f = refl
walk_push terms (x ∷ fs) f = ap (λ xs. walked_in terms x ∷ xs) (walk_push terms fs f)

finished_more : (program : Program) (models : List ModelData) (terms : List Term) (fs more : List Finished) (f : Finished) → IsFinished program models terms fs f → IsFinished program models terms (fs ++ more) f
finished_more program models terms fs more f is = record {
  linked = match_weaker f.behind (f.height ≡ 0) (f.height ≡ 0) (IsBefore program models terms fs f) (IsBefore program models terms (fs ++ more) f) (λ e. e)
      (λ n at b. record { by = b.by; at = get_left fs more n b.by b.at; calls = b.calls; height = b.height }) is.linked;
  distinct = is.distinct;
  demands = is.demands;
  within = is.within;
  call_within = is.call_within;
}

-- ---- the entries of a call

-- the entries of a call have its roots
pub of_call_roots : (metas : List MetaDesc) (program : Program) (formed : IsWellFormed metas program) (models : List ModelData) (tops : List Entry) (c : EntryName) → IsMade program models c
    → (e : Entry) → IsOfCall program models tops c e → HasRoots program c e
of_call_roots metas program formed models tops c made e of =
    let number_is : e.rel ≡ c.rel = ap (λ (x : Entry). x.rel) (of.is).is in
    let r = called_rooted metas program formed models made.0 made.1 c made.2 in
    let rooted : IsRooted metas program formed models of.rel c = subst (λ z. IsRooted metas program formed models z c) (same_called r.called of.rel (sym r.at ∙ of.found)) r.rooted in
    rooted_has metas program formed models e of.rel (ap (slice_get program.rels) number_is ∙ of.found) c number_is rooted ((of.is).source).extends ((of.is).source).places

-- a call that an entry of a call makes is called next by it
pub calls_next : (metas : List MetaDesc) (program : Program) (formed : IsWellFormed metas program) (models : List ModelData) (tops : List Entry) (c : EntryName) → IsMade program models c
    → ((m : Entry) → Contains tops m → IsEntry program models m) → (e : Entry) → IsOfCall program models tops c e → (d : EntryName) → Contains (entry_calls program models e) d → CallsNext program models c d
calls_next metas program formed models tops c made are e of d within = record {
  by = e;
  entry = IsEntry.of_call e made.0 c of.rel of.matches made.1 made.2 of.found of.is (λ m there. are m (of.among m there));
  called = ap (λ (x : Entry). x.called) (of.is).is;
  roots = of_call_roots metas program formed models tops c made e of;
  calls = within;
}

-- a call among those that entries make is made by one of them, and the other way round
pub made_by : (program : Program) (models : List ModelData) (terms : List Term) (calls : List NumberedCall) (es : List Entry) → map (call_of terms) calls ≡ flat_map (entry_calls program models) es
    → (d : NumberedCall) → Contains calls d → (e : Entry) × Contains es e × Contains (entry_calls program models e) (call_of terms d)
made_by program models terms calls es are d there =
    from_flat_map (entry_calls program models) es (call_of terms d) (subst (λ cs. Contains cs (call_of terms d)) are (contains_map (call_of terms) calls d there))

pub made_as : (program : Program) (models : List ModelData) (terms : List Term) (calls : List NumberedCall) (es : List Entry) → map (call_of terms) calls ≡ flat_map (entry_calls program models) es
    → (e : Entry) (c : EntryName) → Contains es e → Contains (entry_calls program models e) c → (d : NumberedCall) × Contains calls d × (call_of terms d ≡ c)
made_as program models terms calls es are e c there within =
    Contains-from_map (call_of terms) calls c (subst (λ cs. Contains cs c) (sym are) (to_flat_map (entry_calls program models) es e c there within))

module _ (metas : List MetaDesc) (program : Program) (formed : IsWellFormed metas program) (models : List ModelData) (tops : Tops) (terms : List Term) (fs : List Finished) (path : List NumberedCall) (c : NumberedCall)
  where
    -- ---- a call comes on the path

    pub entered : IsWalking program models tops terms fs path → IsNext program models terms path c → IsNew terms fs path c → length path < MAX_CALLS → IsWalking program models tops terms fs (path ++ c ∷ [])
    entered w next new room = record {
      tops_are = w.tops_are;
      path_is = subst IsPath (sym (path_push terms path c)) (path_on program models (path_in terms path) (call_of terms c) w.path_is (let l = length-map path (call_of terms) in omega (arith, l, room)) new.off);
      path_within = All-push (IsCallWithin terms) path c w.path_within next.within;
      finished = w.finished;
      apart = apart;
      whole = w.whole;
      once = w.once;
    }
      where
        apart : (f : Finished) → Contains fs f → Contains (path_in terms (path ++ c ∷ [])) (call_of terms f.call) → ⊥
        apart f there on = by (Contains-append_cases (path_in terms path) (call_of terms c ∷ []) (call_of terms f.call) (subst (λ p. Contains p (call_of terms f.call)) (path_push terms path c) on))
          where
            by : Contains (path_in terms path) (call_of terms f.call) ⊎ Contains (call_of terms c ∷ []) (call_of terms f.call) → ⊥
            by (inl before) = w.apart f there before
            by (inr here) = new.unwalked f there (sym (only_one (call_of terms c) (call_of terms f.call) here))

    -- the path leads to the calls that its entries make
    pub next_calls : (found : Found) → AreTopsFound program models terms tops → IsNext program models terms path c → IsExplored program models terms tops c found
        → (d : NumberedCall) → Contains found.calls d → IsCallWithin terms d → IsNext program models terms (path ++ c ∷ []) d
    next_calls found t next x d there within =
        let made = leads_made program models (path_in terms path) (call_of terms c) next.leads in
        let by = made_by program models terms found.calls (entries_in terms found.entries) x.calls d there in
        let calls = calls_next metas program formed models (entries_in terms tops.entries) (call_of terms c) made (λ m among. (t.only m among).0) by.0 ((x.exact by.0).0 by.1) (call_of terms d) by.2 in
        record {
          leads = subst (λ p. LeadsTo program models p (call_of terms d)) (sym (path_push terms path c)) (leads_on program models (path_in terms path) (call_of terms c) (call_of terms d) next.leads calls);
          within = within;
        }

    -- ---- a call is finished

    module _ (found : Found) (h : Height) (w : IsWalking program models tops terms fs (path ++ c ∷ [])) (is_path : IsPath (path_in terms path)) (path_within : All (IsCallWithin terms) path)
        (next : IsNext program models terms path c) (x : IsExplored program models terms tops c found) (high : IsHigh fs (path ++ c ∷ []) found.calls h) where
      abbrev last : Finished
      last = finished_by c found h

      abbrev all : List Finished
      all = fs ++ finished_by c found h ∷ []

      on_path : Contains (path_in terms (path ++ c ∷ [])) (call_of terms c)
      on_path = subst (λ p. Contains p (call_of terms c)) (sym (path_push terms path c)) (Contains-append_right (path_in terms path) (call_of terms c ∷ []) (call_of terms c) (contains_first (call_of terms c) []))

      made : IsMade program models (call_of terms c)
      made = leads_made program models (path_in terms path) (call_of terms c) next.leads

      call_next : (d : NumberedCall) → Contains found.calls d → CallsNext program models (call_of terms c) (call_of terms d)
      call_next d there =
          let by = made_by program models terms found.calls (entries_in terms found.entries) x.calls d there in
          calls_next metas program formed models (entries_in terms tops.entries) (call_of terms c) made (λ m among. ((w.tops_are).only m among).0) by.0 ((x.exact by.0).0 by.1) (call_of terms d) by.2

      last_finished : IsFinished program models terms all last
      last_finished = record {
        linked = match_weaker h.behind (h.height ≡ 0) (h.height ≡ 0) (λ n. (f : Finished) × (slice_get fs n ≡ Some f) × Contains found.calls f.call × (h.height ≡ suc f.height))
            (IsBefore program models terms all last) (λ e. e)
            (λ n at b. record { by = b.0; at = get_left fs (last ∷ []) n b.0 b.1; calls = call_next (b.0).call b.2; height = b.3 }) high.behind;
        distinct = x.distinct;
        demands = x.demands;
        within = x.within;
        call_within = next.within;
      }

      finished : (f : Finished) → Contains all f → IsFinished program models terms all f
      finished f there = by (Contains-append_cases fs (last ∷ []) f there)
        where
          by : Contains fs f ⊎ Contains (last ∷ []) f → IsFinished program models terms all f
          by (inl old) = finished_more program models terms fs (last ∷ []) f (w.finished f old)
          by (inr here) = subst (IsFinished program models terms all) (only_one last f here) last_finished

      apart : (f : Finished) → Contains all f → Contains (path_in terms path) (call_of terms f.call) → ⊥
      apart f there on = by (Contains-append_cases fs (last ∷ []) f there)
        where
          by : Contains fs f ⊎ Contains (last ∷ []) f → ⊥
          by (inl old) =
              w.apart f old (subst (λ p. Contains p (call_of terms f.call)) (sym (path_push terms path c)) (Contains-append_left (path_in terms path) (call_of terms c ∷ []) (call_of terms f.call) on))
          by (inr here) =
              last_apart (path_in terms path) (call_of terms c) (subst (AllPairs (λ (d e : EntryName). d ≢ e)) (path_push terms path c) (w.path_is).distinct)
              (subst (λ (z : Finished). Contains (path_in terms path) (call_of terms z.call)) (sym (only_one last f here)) on)

      below : (e : Entry) (d : EntryName) → Contains (entries_in terms found.entries) e → Contains (entry_calls program models e) d → IsWalkedBelow (walk_in terms fs ++ walked_in terms last ∷ []) h.height d
      below e d there within =
          let n = made_as program models terms found.calls (entries_in terms found.entries) x.calls e d there within in
          let f = high.each n.0 n.1 in
          record {
            by = walked_in terms f.0;
            among = Contains-append_left (walk_in terms fs) (walked_in terms last ∷ []) (walked_in terms f.0) (contains_map (walked_in terms) fs f.0 f.1);
            call = ap (call_of terms) f.2 ∙ n.2;
            lower = f.3;
          }

      last_whole : IsWhole program models (entries_in terms tops.entries) (walk_in terms fs ++ walked_in terms last ∷ []) (walked_in terms last)
      last_whole = record { from = made.0; is_from = made.1; made = made.2; exact = x.exact; met = x.met; calls = below }

      whole : (y : Walked) → Contains (walk_in terms fs ++ walked_in terms last ∷ []) y → IsWhole program models (entries_in terms tops.entries) (walk_in terms fs ++ walked_in terms last ∷ []) y
      whole y there = by (Contains-append_cases (walk_in terms fs) (walked_in terms last ∷ []) y there)
        where
          by : Contains (walk_in terms fs) y ⊎ Contains (walked_in terms last ∷ []) y → IsWhole program models (entries_in terms tops.entries) (walk_in terms fs ++ walked_in terms last ∷ []) y
          by (inl old) = whole_more (walk_in terms fs) (walked_in terms last ∷ []) program models (entries_in terms tops.entries) y (w.whole y old)
          by (inr here) =
              subst (IsWhole program models (entries_in terms tops.entries) (walk_in terms fs ++ walked_in terms last ∷ [])) (only_one (walked_in terms last) y here) last_whole

      once : AllPairs (λ (y z : Walked). y.call ≢ z.call) (walk_in terms fs ++ walked_in terms last ∷ [])
      once = all_pairs_push (λ (y z : Walked). y.call ≢ z.call) (walk_in terms fs) (walked_in terms last) w.once each
        where
          each : (k : ℕ) (d : Walked) → k < length (walk_in terms fs) → (get_or (walk_in terms fs) k d).call ≡ call_of terms c → ⊥
          each k d less same =
              let f = Contains-from_map (walked_in terms) fs (get_or (walk_in terms fs) k d) (place_in (walk_in terms fs) k d less) in
              w.apart f.0 f.1 (subst (Contains (path_in terms (path ++ c ∷ []))) (sym same ∙ sym (ap (λ (y : Walked). y.call) f.2)) on_path)

      pub left : IsWalking program models tops terms all path
      left = record {
        tops_are = w.tops_are;
        path_is = is_path;
        path_within = path_within;
        finished = finished;
        apart = apart;
        whole = subst (λ ws. (y : Walked) → Contains ws y → IsWhole program models (entries_in terms tops.entries) ws y) (sym (walk_push terms fs last)) whole;
        once = subst (AllPairs (λ (y z : Walked). y.call ≢ z.call)) (sym (walk_push terms fs last)) once;
      }
