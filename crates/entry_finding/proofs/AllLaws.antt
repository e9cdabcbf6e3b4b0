-- The entries of bindings, one after another, and of all bindings that there are.
use Rattle.std.specs.Prelude.{◌≡◌, ◌≢◌, ◌↔◌, ◌<◌, ◌+◌, ℕ, Bool, false, List, [], ◌∷◌, ◌++◌, map, length, take, Option, Some, slice_get, slice_index_or, Contains, All, AllPairs}
use Rattle.std.specs.List.{flat_map}
use Rattle.std.proofs.Common.{refl, sym, ap, subst, ◌∙◌}
use Rattle.std.proofs.lemmas.Grind.{flat_map-append}
use Rattle.std.proofs.lemmas.List.{take_more}
use Rattle.std.proofs.lemmas.Option.{same_Some}
use Rattle.std.proofs.lemmas.List.Elements.{All-nil, All-push, All-append, All-contains}
use Rattle.mof_metamodel.proofs.Facts.{contains_map}
use Rattle.object_tables.specs.Models.{ModelData}
use Rattle.qv_syntax.specs.declared.program.Program.{Program}
use Rattle.qv_syntax.specs.declared.program.Rel.{Rel}
use Rattle.repair_semantics.specs.declared.term.Term.{Term}
use Rattle.repair_semantics.specs.declared.entry.Entry.{Entry}
use Rattle.repair_semantics.specs.declared.entry.EntryName.{EntryName}
use Rattle.repair_semantics.specs.EntryValues.{TermValues}
use Rattle.repair_semantics.specs.Entries.{entry_of, entry_calls}
use Rattle.term_table.specs.declared.numbered.NumberedValue.{NumberedValue}
use Rattle.term_table.specs.TermTables.{values_in, IsGrown}
use Rattle.entry_making.specs.Numbered.{IsValueWithin}
use Rattle.entry_making.specs.KeyedVariables.{AreGiven}
use Rattle.entry_making.specs.CallNumbers.{call_of}
use Rattle.entry_bindings.specs.Asked.{IsEntryBinding}
use Rattle.entry_bindings.proofs.ListLaws.{mapped_from}
use Rattle.entry_bindings.proofs.PairLaws.{later_from_pairs, pairs_from_later, later_mapped}
use Rattle.entry_finding.specs.declared.numbered_entry.NumberedEntry.{NumberedEntry}
use Rattle.entry_finding.specs.declared.found.Found.{Found}
use Rattle.entry_finding.specs.declared.found.UnmetEntry.{UnmetEntry}
use Rattle.entry_finding.specs.declared.made.MetEntry.{MetEntry}
use Rattle.entry_finding.specs.declared.made.Made.{Made}
use Rattle.entry_finding.specs.declared.made.Made.TheVariants as outcomes
use Rattle.entry_finding.specs.Found.{entry_in, entries_in, IsEntryWithin, IsCallWithin, is_entry_unmet, MakesDemands, IsEntryAmong, AreFound, IsUnmetAmong}
use Rattle.entry_finding.specs.Made.{IsMet, IsUnmetOf, IsOutcome, IsBindingIn, AreMade, IsOneUnmet}
use Rattle.entry_finding.proofs.GrownLaws.{values_grown, values_stay, entries_grown, entries_stay, calls_grown, calls_stay, all_demands_grown}

mapped_more : {X Y : Type 0} (f : X → Y) (xs : List X) (x : X) → map f (xs ++ x ∷ []) ≡ map f xs ++ f x ∷ []
mapped_more f [] x = refl
mapped_more f (y ∷ ys) x = ap (λ zs. f y ∷ zs) (mapped_more f ys x)

mapped_both : {X Y : Type 0} (f : X → Y) (xs ys : List X) → map f (xs ++ ys) ≡ map f xs ++ map f ys
mapped_both f [] ys = refl
mapped_both f (x ∷ xs) ys = ap (λ zs. f x ∷ zs) (mapped_both f xs ys)

ended : {X : Type 0} (xs : List X) → xs ++ [] ≡ xs
ended [] = refl
ended (x ∷ xs) = ap (λ ys. x ∷ ys) (ended xs)

-- from a binding in a table an entry can be made in a table with further terms too
pub binding_stays : (program : Program) (rel : Rel) (before after : List Term) → IsGrown before after → (b : List (Option NumberedValue)) → IsBindingIn program rel before b → IsBindingIn program rel after b
binding_stays program rel before after g b is = record {
  places = is.places;
  within = values_stay before after g b is.within;
  given = subst (AreGiven program rel) (sym (values_grown before after g b is.within)) is.given;
}

module _ (program : Program) (models : List ModelData) (number : ℕ) (rel : Rel) (called : Bool) where
  pub met_of : (terms : List Term) (b : TermValues) (x : Made) (m : MetEntry) → x ≡ outcomes.Met m → IsOutcome program models terms number rel called b x → IsMet program models terms number rel called b m
  met_of terms b x m same is = subst (IsOutcome program models terms number rel called b) same is

  -- the entry of one of some bindings that is unmet
  pub unmet_of : (before middle after : List Term) → IsGrown before middle → (bs : List (List (Option NumberedValue))) (b : List (Option NumberedValue)) → Contains bs b → All (IsValueWithin before) b
      → (x : Made) (u : UnmetEntry) → x ≡ outcomes.Unmet u → IsOutcome program models after number rel called (values_in middle b) x
      → IsOneUnmet program models after number rel called (map (values_in before) bs) u
  unmet_of before middle after g bs b there within x u same is = record {
    b = values_in before b;
    among = contains_map (values_in before) bs b there;
    is = subst (λ (bv : TermValues). IsUnmetOf program models after number rel called bv u) (values_grown before middle g b within)
        (subst (IsOutcome program models after number rel called (values_in middle b)) same is);
  }

  -- ---- one after another

  pub nothing_made : (terms : List Term) (found : Found) → found.entries ≡ [] → found.calls ≡ [] → AreMade program models terms number rel called [] found
  nothing_made terms found no_entries no_calls = record {
    entries = ap (entries_in terms) no_entries;
    met = subst (λ (es : List NumberedEntry). All (λ e. is_entry_unmet program models e ≡ false) (entries_in terms es)) (sym no_entries) (All-nil (λ e. is_entry_unmet program models e ≡ false));
    calls = ap (map (call_of terms)) no_calls ∙ sym (ap (λ (es : List NumberedEntry). flat_map (entry_calls program models) (entries_in terms es)) no_entries);
    demands = subst (All (MakesDemands program models terms)) (sym no_entries) (All-nil (MakesDemands program models terms));
    within = subst (All (IsEntryWithin terms)) (sym no_entries) (All-nil (IsEntryWithin terms));
    calls_within = subst (All (IsCallWithin terms)) (sym no_calls) (All-nil (IsCallWithin terms));
  }

  made_grown : (before after : List Term) → IsGrown before after → (bs : List TermValues) (found : Found) → AreMade program models before number rel called bs found → AreMade program models after number rel called bs found
  made_grown before after g bs found made =
      let same : entries_in after found.entries ≡ entries_in before found.entries = entries_grown before after g found.entries made.within in
      record {
        entries = same ∙ made.entries;
        met = subst (All (λ e. is_entry_unmet program models e ≡ false)) (sym same) made.met;
        calls = calls_grown before after g found.calls made.calls_within ∙ made.calls ∙ ap (flat_map (entry_calls program models)) (sym same);
        demands = all_demands_grown before after g program models found.entries made.within made.demands;
        within = entries_stay before after g found.entries made.within;
        calls_within = calls_stay before after g found.calls made.calls_within;
      }

  made_more : (terms : List Term) (bs : List TermValues) (found : Found) → AreMade program models terms number rel called bs found → (b : TermValues) (m : MetEntry) → IsMet program models terms number rel called b m
      → (next : Found) → next.entries ≡ found.entries ++ m.entry ∷ [] → next.calls ≡ found.calls ++ m.calls → AreMade program models terms number rel called (bs ++ b ∷ []) next
  made_more terms bs found made b m is next entries calls =
      let shown : entries_in terms next.entries ≡ entries_in terms found.entries ++ entry_in terms m.entry ∷ [] = ap (entries_in terms) entries ∙ mapped_more (entry_in terms) found.entries m.entry in
      record {
        entries =
            shown ∙ ap (λ (xs : List Entry). xs ++ entry_in terms m.entry ∷ []) made.entries
            ∙ ap (λ (x : Entry). map (entry_of program models number rel called) bs ++ x ∷ []) is.entry
            ∙ sym (mapped_more (entry_of program models number rel called) bs b);
        met = subst (All (λ e. is_entry_unmet program models e ≡ false)) (sym shown)
            (All-push (λ e. is_entry_unmet program models e ≡ false) (entries_in terms found.entries) (entry_in terms m.entry) made.met is.met);
        calls =
            ap (map (call_of terms)) calls ∙ mapped_both (call_of terms) found.calls m.calls
            ∙ ap (λ (xs : List EntryName). xs ++ map (call_of terms) m.calls) made.calls
            ∙ ap (λ (xs : List EntryName). flat_map (entry_calls program models) (entries_in terms found.entries) ++ xs) (is.calls ∙ sym (ended (entry_calls program models (entry_in terms m.entry))))
            ∙ sym (flat_map-append (entry_calls program models) (entries_in terms found.entries) (entry_in terms m.entry ∷ []))
            ∙ ap (flat_map (entry_calls program models)) (sym shown);
        demands = subst (All (MakesDemands program models terms)) (sym entries) (All-push (MakesDemands program models terms) found.entries m.entry made.demands is.demands);
        within = subst (All (IsEntryWithin terms)) (sym entries) (All-push (IsEntryWithin terms) found.entries m.entry made.within is.within);
        calls_within = subst (All (IsCallWithin terms)) (sym calls) (All-append (IsCallWithin terms) found.calls m.calls made.calls_within is.calls_within);
      }

  -- one more binding, whose terms are put behind the others in the table
  pub made_next : (before after : List Term) → IsGrown before after → (bs : List TermValues) (found : Found) → AreMade program models before number rel called bs found
      → (b : TermValues) (m : MetEntry) → IsMet program models after number rel called b m
      → (next : Found) → next.entries ≡ found.entries ++ m.entry ∷ [] → next.calls ≡ found.calls ++ m.calls → AreMade program models after number rel called (bs ++ b ∷ []) next
  made_next before after g bs found made b m is next entries calls = made_more after bs found (made_grown before after g bs found made) b m is next entries calls

  -- one more of some bindings
  pub made_step : (before middle after : List Term) → IsGrown before middle → IsGrown middle after → (bs : List (List (Option NumberedValue))) (i : ℕ) (b d : List (Option NumberedValue)) → i < length bs
      → b ≡ slice_index_or bs i d → All (IsValueWithin before) b
      → (found : Found) → AreMade program models middle number rel called (map (values_in before) (take i bs)) found
      → (x : Made) (m : MetEntry) → x ≡ outcomes.Met m → IsOutcome program models after number rel called (values_in middle b) x
      → (next : Found) → next.entries ≡ found.entries ++ m.entry ∷ [] → next.calls ≡ found.calls ++ m.calls
      → AreMade program models after number rel called (map (values_in before) (take (i + 1) bs)) next
  made_step before middle after g h bs i b d less at within found made x m same is next entries calls =
      let own : IsMet program models after number rel called (values_in before b) m
      = subst (λ (bv : TermValues). IsMet program models after number rel called bv m) (values_grown before middle g b within) (met_of after (values_in middle b) x m same is) in
      let one : take (i + 1) bs ≡ take i bs ++ b ∷ []
      = take_more bs i d less ∙ ap (λ (y : List (Option NumberedValue)). take i bs ++ y ∷ []) (sym at) in
      let all : map (values_in before) (take i bs) ++ values_in before b ∷ [] ≡ map (values_in before) (take (i + 1) bs)
      = sym (ap (map (values_in before)) one ∙ mapped_more (values_in before) (take i bs) b) in
      subst (λ (bvs : List TermValues). AreMade program models after number rel called bvs next) all
      (made_next middle after h (map (values_in before) (take i bs)) found made (values_in before b) m own next entries calls)

  -- ---- all of them

  module _ (found_rel : slice_get program.rels number ≡ Some rel) (terms : List Term) (names : List EntryName) (roots : TermValues) (bs : List TermValues)
      (exact : (b : TermValues) → Contains bs b ↔ IsEntryBinding program models rel names roots b) (apart : AllPairs (λ a b. a ≢ b) bs) where
    abbrev its_entry : TermValues → Entry
    its_entry = entry_of program models number rel called

    among : (b : TermValues) (e : Entry) → Contains bs b → its_entry b ≡ e → IsEntryAmong program models names number called roots e
    among b e there is =
        let same : b ≡ e.values = ap (λ (x : Entry). x.values) is in
        record {
          rel = rel;
          found = found_rel;
          binding = subst (IsEntryBinding program models rel names roots) same ((exact b).0 there);
          is = sym is ∙ ap its_entry same;
        }

    back : (e : Entry) → IsEntryAmong program models names number called roots e → Contains (map its_entry bs) e
    back e a =
        let same : a.rel ≡ rel = same_Some a.rel rel (sym a.found ∙ found_rel) in
        let there : Contains bs e.values = (exact e.values).1 (subst (λ (r : Rel). IsEntryBinding program models r names roots e.values) same a.binding) in
        let is : e ≡ its_entry e.values = a.is ∙ ap (λ (r : Rel). entry_of program models number r called e.values) same in
        subst (Contains (map its_entry bs)) (sym is) (contains_map its_entry bs e.values there)

    differ : AllPairs (λ d e. d ≢ e) (map its_entry bs)
    differ =
        pairs_from_later (λ d e. d ≢ e) (map its_entry bs)
        (later_mapped (λ a b. a ≢ b) (λ d e. d ≢ e) its_entry bs (later_from_pairs (λ a b. a ≢ b) bs apart) (λ a b one other ne same. ne (ap (λ (x : Entry). x.values) same)))

    pub all_found : (found : Found) → AreMade program models terms number rel called bs found → AreFound program models terms names number called roots found
    all_found found made = record {
      exact = λ e. (
        λ there. let (b, within, is) = mapped_from its_entry bs e (subst (λ (xs : List Entry). Contains xs e) made.entries there) in among b e within is,
        λ a. subst (λ (xs : List Entry). Contains xs e) (sym made.entries) (back e a),
      );
      distinct = subst (AllPairs (λ d e. d ≢ e)) (sym made.entries) differ;
      met = λ e there. All-contains (λ d. is_entry_unmet program models d ≡ false) (entries_in terms found.entries) e made.met there;
      calls = made.calls;
      demands = made.demands;
      within = made.within;
      calls_within = made.calls_within;
    }

    pub one_unmet : (u : UnmetEntry) → IsOneUnmet program models terms number rel called bs u → IsUnmetAmong program models terms names number called roots u
    one_unmet u one = record { among = among one.b (entry_in terms u.entry) one.among (sym one.is.entry); place = one.is.place; within = one.is.within }
