-- The end of a walk: a chain or an entry that is refused, or all entries.
use Rattle.std.specs.Prelude.{◌≡◌, ◌≢◌, ◌⊎◌, ◌<◌, true, Option, List, [], ◌∷◌, ◌++◌, length, Contains, All, AllPairs}
use Rattle.std.specs.List.{flat_map}
use Rattle.std.specs.Option.{is_some}
use Rattle.std.proofs.Common.{refl, sym, ap, subst, ◌∙◌, inl, inr, arith, length-append}
use Rattle.std.proofs.lemmas.Bool.{true≢false}
use Rattle.std.proofs.lemmas.List.{length-map, map-append}
use Rattle.std.proofs.lemmas.List.Elements.{All-append, All-contains, Contains-append_cases, Contains-append_left, Contains-append_right}
use Rattle.mof_metamodel.specs.declared.desc.MetaDesc.{MetaDesc}
use Rattle.mof_metamodel.proofs.Facts.{contains_first, contains_map, nothing_in}
use Rattle.template_match.proofs.ListLaws.{contains_later}
use Rattle.mof_metamodel.proofs.PropLemmas.{to_flat_map, from_flat_map}
use Rattle.object_tables.proofs.ListLemmas.{Contains-from_map}
use Rattle.object_tables.specs.Models.{ModelData}
use Rattle.qv_syntax.specs.declared.program.Program.{Program}
use Rattle.qv_syntax.specs.WellFormed.{IsWellFormed}
use Rattle.qvtr_semantics.specs.declared.limits.TheConstants.{MAX_CALLS}
use Rattle.repair_semantics.specs.declared.term.Term.{Term}
use Rattle.repair_semantics.specs.declared.entry.Entry.{Entry}
use Rattle.repair_semantics.specs.declared.entry.EntryName.{EntryName}
use Rattle.repair_semantics.specs.declared.entry.Place.{Place}
use Rattle.repair_semantics.specs.Making.{entry_known}
use Rattle.repair_semantics.specs.Unmet.{is_unmet}
use Rattle.repair_semantics.specs.Entries.{HasRoots, IsEntry}
use Rattle.reading_laws.proofs.MeetingValues.{one_of}
use Rattle.entry_bindings.proofs.PairLaws.{AllLater, later_from_pairs, pairs_from_later, later_flat}
use Rattle.entry_making.specs.declared.numbered_call.NumberedCall.{NumberedCall}
use Rattle.entry_making.specs.CallNumbers.{call_of}
use Rattle.entry_finding.specs.declared.numbered_entry.NumberedEntry.{NumberedEntry}
use Rattle.entry_finding.specs.declared.found.UnmetEntry.{UnmetEntry}
use Rattle.entry_finding.specs.Found.{entry_in, entries_in, IsEntryWithin, IsCallWithin, MakesDemands, IsUnmetAt}
use Rattle.entry_tops.specs.declared.tops.Tops.{Tops}
use Rattle.entry_tops.specs.Tops.{AreTopsFound, IsUnmetTop}
use Rattle.entry_walk.specs.declared.finished.Finished.{Finished}
use Rattle.entry_walk.specs.declared.ends.Height.{Height}
use Rattle.entry_walk.specs.declared.ends.WalkEnd.TheVariants as ends
use Rattle.entry_walk.specs.Walks.{Walked, IsWalk, IsAmong}
use Rattle.entry_walk.specs.Paths.{path_in}
use Rattle.entry_walk.specs.FinishedTables.{entries_of}
use Rattle.entry_walk.specs.Explored.{IsMade, IsUnmetOf}
use Rattle.entry_walk.specs.Ends.{AreAllEntries, IsWalkEnd}
use Rattle.entry_walk.specs.Walking.{walked_in, walk_in, IsWalking, IsNext, IsFurther, IsHigh, IsWalked}
use Rattle.entry_walk.proofs.PlaceLaws.{all_of}
use Rattle.entry_walk.proofs.PathLaws.{leads_made}
use Rattle.entry_walk.proofs.StepLaws.{of_call_roots, made_as, made_by}
use Rattle.entry_walk.proofs.WalkLaws.{same_listed, named_same, all_among, only_entries, no_cycle, no_deep, none_unmet, met_among}

-- ---- an entry that is unmet

unmet_true : (program : Program) (models : List ModelData) (e : Entry) (place : Place) (at : IsUnmetAt program models e place)
    → is_unmet program models at.rel (entry_known program models at.rel e.values) ≡ true
unmet_true program models e place at = ap (λ (o : Option Place). is_some o) at.first

-- of a top relation
pub top_end : (program : Program) (models : List ModelData) (terms : List Term) (u : UnmetEntry) → IsUnmetTop program models terms u → IsWalkEnd program models terms (ends.Unmet u)
top_end program models terms u is = (
  record {
    is = is.is;
    in_time = λ called. absurd (true≢false (sym called ∙ is.top));
    rel = (is.place).rel;
    found = (is.place).found;
    unmet = unmet_true program models (entry_in terms u.entry) u.place is.place;
  },
  is.place,
  is.within,
)

-- of a call to which a path leads
pub called_end : (metas : List MetaDesc) (program : Program) (formed : IsWellFormed metas program) (models : List ModelData) (tops : Tops) (terms : List Term) (path : List NumberedCall) (c : NumberedCall) (u : UnmetEntry)
    → AreTopsFound program models terms tops → IsNext program models terms path c → length path < MAX_CALLS → IsUnmetOf program models terms tops c u → IsWalkEnd program models terms (ends.Unmet u)
called_end metas program formed models tops terms path c u t next room is = (
  record {
    is = IsEntry.of_call (entry_in terms u.entry) made.0 (call_of terms c) (is.is).rel (is.is).matches made.1 made.2 (is.is).found (is.is).is (λ m there. (t.only m ((is.is).among m there)).0);
    in_time = λ called. record {
      before = path_in terms path;
      last = call_of terms c;
      reached = next.leads;
      short = (let l = length-append (path_in terms path) (call_of terms c ∷ []) in let m = length-map path (call_of terms) in omega (arith, l, m, room));
      roots = of_call_roots metas program formed models (entries_in terms tops.entries) (call_of terms c) made (entry_in terms u.entry) is.is;
    };
    rel = (is.place).rel;
    found = (is.place).found;
    unmet = unmet_true program models (entry_in terms u.entry) u.place is.place;
  },
  is.place,
  is.within,
)
  where
    made : IsMade program models (call_of terms c)
    made = leads_made program models (path_in terms path) (call_of terms c) next.leads

later_joined : {X : Type 0} (R : X → X → Type 0) (xs ys : List X) → AllLater R xs → AllLater R ys → ((x y : X) → Contains xs x → Contains ys y → R x y) → AllLater R (xs ++ ys)
later_joined R [] ys one other across = other
later_joined {X} R (x ∷ xs) ys one other across =
    (λ y there. by y (Contains-append_cases xs ys y there), later_joined R xs ys one.1 other (λ z y there within. across z y (contains_later z x xs there) within))
  where
    by : (y : X) → Contains xs y ⊎ Contains ys y → R x y
    by y (inl h) = one.0 y h
    by y (inr h) = across x y (contains_first x xs) h

-- ---- all entries

module _ (metas : List MetaDesc) (program : Program) (formed : IsWellFormed metas program) (models : List ModelData) (terms : List Term) (tops : Tops) (fs : List Finished) (w : IsWalked program models terms tops fs) where
  abbrev top_list : List Entry
  top_list = entries_in terms tops.entries

  abbrev walked : List Walked
  walked = walk_in terms fs

  is_walk : IsWalk program models top_list walked
  is_walk = record {
    tops_are = record {
      only = ((w.walking).tops_are).only;
      all = ((w.walking).tops_are).all;
      met = ((w.walking).tops_are).met;
      calls = λ e c there made.
          let d = made_as program models terms tops.calls top_list ((w.walking).tops_are).calls e c there made in
          let f = w.each d.0 d.1 in
          record { by = walked_in terms f.0; among = contains_map (walked_in terms) fs f.0 f.1; call = ap (call_of terms) f.2 ∙ d.2; lower = f.3 };
    };
    whole = (w.walking).whole;
    once = λ x y p q same. one_of (λ (a b : Walked). a.call ≢ b.call) walked x y (w.walking).once (λ no. no same) (λ no. no (sym same)) p q;
  }

  abbrev flat : List Finished → List Entry
  flat gs = flat_map (λ (f : Finished). entries_in terms f.entries) gs

  flat_shown : (gs : List Finished) → entries_in terms (flat_map entries_of gs) ≡ flat gs
  flat_shown [] = refl
  flat_shown (f ∷ gs) = map-append (entry_in terms) f.entries (flat_map entries_of gs) ∙ ap (λ es. entries_in terms f.entries ++ es) (flat_shown gs)

  shown : entries_in terms (tops.entries ++ flat_map entries_of fs) ≡ top_list ++ flat fs
  shown = map-append (entry_in terms) tops.entries (flat_map entries_of fs) ∙ ap (λ es. top_list ++ es) (flat_shown fs)

  among_to : (e : Entry) → IsAmong top_list walked e → Contains (top_list ++ flat fs) e
  among_to e (inl top) = Contains-append_left top_list (flat fs) e top
  among_to e (inr (x, there, within)) =
      let f = Contains-from_map (walked_in terms) fs x there in
      Contains-append_right top_list (flat fs) e (to_flat_map (λ (g : Finished). entries_in terms g.entries) fs f.0 e f.1 (subst (λ (y : Walked). Contains y.entries e) (sym f.2) within))

  among_from : (e : Entry) → Contains (top_list ++ flat fs) e → IsAmong top_list walked e
  among_from e there = by (Contains-append_cases top_list (flat fs) e there)
    where
      by : Contains top_list e ⊎ Contains (flat fs) e → IsAmong top_list walked e
      by (inl top) = inl top
      by (inr within) =
          let f = from_flat_map (λ (g : Finished). entries_in terms g.entries) fs e within in
          inr (walked_in terms f.0, contains_map (walked_in terms) fs f.0 f.1, f.2)

  -- ---- each once

  of_call : (f : Finished) → Contains fs f → (e : Entry) → Contains (entries_in terms f.entries) e → HasRoots program (call_of terms f.call) e × (e.called ≡ true)
  of_call f there e within =
      let x = (w.walking).whole (walked_in terms f) (contains_map (walked_in terms) fs f there) in
      let of = (x.exact e).0 within in
      (of_call_roots metas program formed models top_list (call_of terms f.call) (x.from, x.is_from, x.made) e of, ap (λ (y : Entry). y.called) (of.is).is)

  same_call : (c d : EntryName) (e : Entry) → HasRoots program c e → HasRoots program d e → c ≡ d
  same_call c d e p q = named_same c d (sym p.rel ∙ q.rel) (same_listed c.roots d.roots (sym p.roots ∙ q.roots))

  later_calls : (gs : List Finished) → AllLater (λ (x y : Walked). x.call ≢ y.call) (walk_in terms gs) → AllLater (λ (f g : Finished). call_of terms f.call ≢ call_of terms g.call) gs
  later_calls [] h = tt
  later_calls (f ∷ gs) h = (λ g there. h.0 (walked_in terms g) (contains_map (walked_in terms) gs g there), later_calls gs h.1)

  distinct : AllPairs (λ (d e : Entry). d ≢ e) (top_list ++ flat fs)
  distinct =
      pairs_from_later (λ (d e : Entry). d ≢ e) (top_list ++ flat fs)
      (later_joined (λ (d e : Entry). d ≢ e) top_list (flat fs)
      (later_from_pairs (λ (d e : Entry). d ≢ e) top_list ((w.walking).tops_are).distinct)
      (later_flat (λ (f g : Finished). call_of terms f.call ≢ call_of terms g.call) (λ (d e : Entry). d ≢ e) (λ (f : Finished). entries_in terms f.entries) fs
      (later_calls fs (later_from_pairs (λ (x y : Walked). x.call ≢ y.call) walked (w.walking).once))
      (λ f there. later_from_pairs (λ (d e : Entry). d ≢ e) (entries_in terms f.entries) ((w.walking).finished f there).distinct)
      (λ f g d e p q apart one other same.
      apart (same_call (call_of terms f.call) (call_of terms g.call) d (of_call f p d one).0 (of_call g q d (subst (Contains (entries_in terms g.entries)) (sym same) other)).0)))
      (λ d e one other same.
      let f = from_flat_map (λ (g : Finished). entries_in terms g.entries) fs e other in
      true≢false (sym (of_call f.0 f.1 e f.2).1 ∙ sym (ap (λ (y : Entry). y.called) same) ∙ (((w.walking).tops_are).only d one).1)))

  -- ---- by number

  each_entry : (P : NumberedEntry → Type 0) → All P tops.entries → ((f : Finished) → Contains fs f → All P f.entries) → All P (tops.entries ++ flat_map entries_of fs)
  each_entry P tops_all each = All-append P tops.entries (flat_map entries_of fs) tops_all (all_of P (flat_map entries_of fs) one)
    where
      one : (n : NumberedEntry) → Contains (flat_map entries_of fs) n → P n
      one n there = let f = from_flat_map entries_of fs n there in All-contains P (f.0).entries n (each f.0 f.1) f.2

  pub whole_end : AreAllEntries program models terms (tops.entries ++ flat_map entries_of fs)
  whole_end = record {
    exact = λ e. (
      λ is. subst (λ es. Contains es e) (sym shown) (among_to e (all_among metas program formed models top_list walked is_walk e is)),
      λ there. only_entries metas program formed models top_list walked is_walk e (among_from e (subst (λ es. Contains es e) shown there)),
    );
    distinct = subst (AllPairs (λ (d e : Entry). d ≢ e)) (sym shown) distinct;
    acyclic = no_cycle metas program formed models top_list walked is_walk;
    short = no_deep metas program formed models top_list walked is_walk;
    met = none_unmet metas program formed models top_list walked is_walk;
    unmet_none = λ e there. met_among metas program formed models top_list walked is_walk e (among_from e (subst (λ es. Contains es e) shown there));
    demands = each_entry (MakesDemands program models terms) ((w.walking).tops_are).demands (λ f there. ((w.walking).finished f there).demands);
    within = each_entry (IsEntryWithin terms) ((w.walking).tops_are).within (λ f there. ((w.walking).finished f there).within);
  }

-- ---- the begin of a walk

module _ (program : Program) (models : List ModelData) (terms : List Term) (tops : Tops) (t : AreTopsFound program models terms tops) where
  begun : IsWalking program models tops terms [] []
  begun = record {
    tops_are = t;
    path_is = record { distinct = λ i j d before less. absurd (omega (arith, less)); short = omega arith };
    path_within = λ k d less. absurd (omega (arith, less));
    finished = λ f there. absurd (nothing_in f there);
    apart = λ f there on. nothing_in f there;
    whole = λ x there. absurd (nothing_in x there);
    once = λ i j d before less. absurd (omega (arith, less));
  }

  -- also where the lists are known to be empty
  pub begun_at : (fs : List Finished) (path : List NumberedCall) → fs ≡ [] → path ≡ [] → IsWalking program models tops terms fs path
  begun_at fs path empty none = subst (λ xs. IsWalking program models tops terms xs path) (sym empty) (subst (IsWalking program models tops terms []) (sym none) begun)

  -- the calls of top relations begin a chain
  pub begins_next : (path : List NumberedCall) → path ≡ [] → (calls : List NumberedCall) → calls ≡ tops.calls → (c : NumberedCall) → Contains calls c → IsNext program models terms path c
  begins_next path none calls same c there =
      let within : Contains tops.calls c = subst (λ cs. Contains cs c) same there in
      let by = made_by program models terms tops.calls (entries_in terms tops.entries) t.calls c within in
      subst (λ p. IsNext program models terms p c) (sym none)
      (record {
        leads = (record { from = by.0; entry = (t.only by.0 by.1).0; top = (t.only by.0 by.1).1; calls = by.2 }, tt);
        within = All-contains (IsCallWithin terms) tops.calls c t.calls_within within;
      })

-- where all its calls have been walked
pub walked_by : (program : Program) (models : List ModelData) (terms : List Term) (tops : Tops) (fs gs : List Finished) (path q calls : List NumberedCall) (h : Height) → path ≡ [] → calls ≡ tops.calls
    → IsFurther program models tops fs path terms gs q → IsHigh gs q calls h → IsWalked program models terms tops gs
walked_by program models terms tops fs gs path q calls h none same further high = record {
  walking = subst (IsWalking program models tops terms gs) (further.same_path ∙ none) further.walking;
  each = λ c there.
      let f = high.each c (subst (λ cs. Contains cs c) (sym same) there) in
      let l = f.3 in
      let m = high.room in
      (f.0, f.1, f.2, omega (arith, l, m));
}
