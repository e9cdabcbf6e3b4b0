-- As a table grows, what was decoded before stays: entries, calls, demands, names and roots.
use Rattle.std.specs.Prelude.{◌≡◌, ℕ, List, [], ◌∷◌, map, length, Option, None, Some, slice_index_or, All}
use Rattle.std.specs.Option.{option_map}
use Rattle.std.proofs.Common.{refl, sym, ap, subst, ◌∙◌, inl, inr}
use Rattle.std.proofs.lemmas.Bool.{cases_lt}
use Rattle.std.proofs.lemmas.List.{get_or_past, get_or_default}
use Rattle.std.proofs.lemmas.List.Elements.{All-head, All-tail, All-contains_itself}
use Rattle.mof_metamodel.proofs.Facts.{contains_first}
use Rattle.template_match.proofs.ListLaws.{contains_later}
use Rattle.object_tables.specs.Models.{ModelData}
use Rattle.qv_syntax.specs.declared.program.Program.{Program}
use Rattle.repair_semantics.specs.declared.term.Term.{Term}
use Rattle.repair_semantics.specs.declared.term.TermValue.{TermValue}
use Rattle.repair_semantics.specs.declared.demand.Demand.{Demand}
use Rattle.repair_semantics.specs.declared.entry.Entry.{Entry}
use Rattle.repair_semantics.specs.declared.entry.EntryName.{EntryName}
use Rattle.repair_semantics.specs.EntryValues.{TermValues}
use Rattle.repair_semantics.specs.Demands.{entry_demands}
use Rattle.term_table.specs.declared.numbered.NumberedValue.{NumberedValue}
use Rattle.term_table.specs.TermTables.{term_at, value_in, values_in, IsWithin, IsGrown}
use Rattle.term_table.proofs.TermTableLaws.{length_grown, term_grown, within_grown, value_grown, keys_grown}
use Rattle.entry_making.specs.declared.item_demand.ItemDemand.{ItemDemand}
use Rattle.entry_making.specs.declared.numbered_call.NumberedCall.{NumberedCall}
use Rattle.entry_making.specs.Numbered.{IsValueWithin}
use Rattle.entry_making.specs.CallNumbers.{call_of}
use Rattle.entry_making.specs.DemandNumbers.{demand_of}
use Rattle.entry_bindings.specs.declared.matching.Match.{Match}
use Rattle.entry_bindings.specs.Starts.{NumberedValues}
use Rattle.entry_bindings.specs.Matches.{name_in, names_in}
use Rattle.entry_bindings.specs.Asked.{AreWithin, AreMatchesWithin}
use Rattle.entry_bindings.proofs.ArgumentLaws.{none_some}
use Rattle.entry_finding.specs.declared.numbered_entry.NumberedEntry.{NumberedEntry}
use Rattle.entry_finding.specs.Found.{entry_in, entries_in, IsDemandWithin, IsEntryWithin, IsCallWithin, MakesDemands}

-- ---- values within a table, place by place and by variables

pub places_within : (terms : List Term) (b : NumberedValues) → AreWithin terms b → All (IsValueWithin terms) b
places_within terms b within k d lt = by (slice_index_or b k d) refl
  where
    by : (o : Option NumberedValue) → slice_index_or b k d ≡ o → IsValueWithin terms o
    by None is = tt
    by (Some x) is = within k x (get_or_default b k None d lt ∙ is)

pub numbers_within : (terms : List Term) (b : NumberedValues) → All (IsValueWithin terms) b → AreWithin terms b
numbers_within terms b within v x is = elim (cases_lt v (length b)) [
  | inl lt ↦ subst (IsValueWithin terms) is (within v None lt)
  | inr past ↦ absurd (none_some x (sym (get_or_past b v None past) ∙ is))
]

module _ (a b : List Term) (g : IsGrown a b) where
  -- ---- values

  option_grown : (o : Option NumberedValue) → IsValueWithin a o → option_map (value_in b) o ≡ option_map (value_in a) o
  option_grown None w = refl
  option_grown (Some v) w = ap (λ (x : TermValue). Some x) (value_grown a b v g w)

  option_stays : (o : Option NumberedValue) → IsValueWithin a o → IsValueWithin b o
  option_stays None w = tt
  option_stays (Some v) w = within_grown a b v g w

  pub values_grown : (vs : NumberedValues) → All (IsValueWithin a) vs → values_in b vs ≡ values_in a vs
  values_grown [] w = refl
  values_grown (v ∷ vs) w =
      ap (λ x. x ∷ values_in b vs) (option_grown v (All-head (IsValueWithin a) v vs w)) ∙ ap (λ xs. option_map (value_in a) v ∷ xs) (values_grown vs (All-tail (IsValueWithin a) v vs w))

  pub values_stay : (vs : NumberedValues) → All (IsValueWithin a) vs → All (IsValueWithin b) vs
  values_stay vs w k d lt = option_stays (slice_index_or vs k d) (w k d lt)

  pub roots_grown : (vs : NumberedValues) → AreWithin a vs → values_in b vs ≡ values_in a vs
  roots_grown vs w = values_grown vs (places_within a vs w)

  pub roots_stay : (vs : NumberedValues) → AreWithin a vs → AreWithin b vs
  roots_stay vs w v x is = within_grown a b x g (w v x is)

  -- ---- names

  match_grown : (m : Match) → All (IsWithin a) m.roots → name_in b m ≡ name_in a m
  match_grown m w = ap (λ (xs : List TermValue). let c : EntryName = record { rel = m.rel; roots = xs } in c) (keys_grown a b m.roots g w)

  pub names_grown : (ms : List Match) → AreMatchesWithin a ms → names_in b ms ≡ names_in a ms
  names_grown [] w = refl
  names_grown (m ∷ ms) w =
      ap (λ x. x ∷ names_in b ms) (match_grown m (λ k d lt. w m _ (contains_first m ms) (All-contains_itself m.roots k d lt)))
      ∙ ap (λ xs. name_in a m ∷ xs) (names_grown ms (λ n x there. w n x (contains_later n m ms there)))

  pub matches_stay : (ms : List Match) → AreMatchesWithin a ms → AreMatchesWithin b ms
  matches_stay ms w m x there among = within_grown a b x g (w m x there among)

  -- ---- calls

  pub call_grown : (c : NumberedCall) → IsCallWithin a c → call_of b c ≡ call_of a c
  call_grown c w = ap (λ (xs : List TermValue). let n : EntryName = record { rel = c.rel; roots = xs } in n) (keys_grown a b c.roots g w)

  pub call_stays : (c : NumberedCall) → IsCallWithin a c → IsCallWithin b c
  call_stays c w k d lt = within_grown a b _ g (w k d lt)

  pub calls_grown : (cs : List NumberedCall) → All (IsCallWithin a) cs → map (call_of b) cs ≡ map (call_of a) cs
  calls_grown [] w = refl
  calls_grown (c ∷ cs) w =
      ap (λ x. x ∷ map (call_of b) cs) (call_grown c (All-head (IsCallWithin a) c cs w)) ∙ ap (λ xs. call_of a c ∷ xs) (calls_grown cs (All-tail (IsCallWithin a) c cs w))

  pub calls_stay : (cs : List NumberedCall) → All (IsCallWithin a) cs → All (IsCallWithin b) cs
  calls_stay cs w k d lt = call_stays (slice_index_or cs k d) (w k d lt)

  -- ---- demands

  demand_stays : (d : ItemDemand) → IsDemandWithin a d → IsDemandWithin b d
  demand_stays d w = record { owner = length_grown a b d.owner g w.owner; value = within_grown a b d.value g w.value }

  demand_grown : (number : ℕ) (d : ItemDemand) → IsDemandWithin a d → demand_of b number d ≡ demand_of a number d
  demand_grown number d w =
      ap (λ (t : Term). let x : Demand = record { entry = number; owner = t; prop = d.prop; value = value_in b d.value } in x) (term_grown a b d.owner g w.owner)
      ∙ ap (λ (v : TermValue). let x : Demand = record { entry = number; owner = term_at a d.owner; prop = d.prop; value = v } in x) (value_grown a b d.value g w.value)

  pub item_demands_grown : (number : ℕ) (ds : List ItemDemand) → All (IsDemandWithin a) ds → map (demand_of b number) ds ≡ map (demand_of a number) ds
  item_demands_grown number [] w = refl
  item_demands_grown number (d ∷ ds) w =
      ap (λ x. x ∷ map (demand_of b number) ds) (demand_grown number d (All-head (IsDemandWithin a) d ds w))
      ∙ ap (λ xs. demand_of a number d ∷ xs) (item_demands_grown number ds (All-tail (IsDemandWithin a) d ds w))

  -- ---- entries

  pub entry_stays : (e : NumberedEntry) → IsEntryWithin a e → IsEntryWithin b e
  entry_stays e w = record { values = values_stay e.values w.values; made = values_stay e.made w.made; demands = λ k d lt. demand_stays _ (w.demands k d lt) }

  pub entry_grown : (e : NumberedEntry) → IsEntryWithin a e → entry_in b e ≡ entry_in a e
  entry_grown e w =
      ap (λ (vs : TermValues). let x : Entry = record { rel = e.rel; called = e.called; values = vs; made = values_in b e.made } in x) (values_grown e.values w.values)
      ∙ ap (λ (vs : TermValues). let x : Entry = record { rel = e.rel; called = e.called; values = values_in a e.values; made = vs } in x) (values_grown e.made w.made)

  pub entries_stay : (es : List NumberedEntry) → All (IsEntryWithin a) es → All (IsEntryWithin b) es
  entries_stay es w k d lt = entry_stays _ (w k d lt)

  pub entries_grown : (es : List NumberedEntry) → All (IsEntryWithin a) es → entries_in b es ≡ entries_in a es
  entries_grown [] w = refl
  entries_grown (e ∷ es) w =
      ap (λ x. x ∷ entries_in b es) (entry_grown e (All-head (IsEntryWithin a) e es w)) ∙ ap (λ xs. entry_in a e ∷ xs) (entries_grown es (All-tail (IsEntryWithin a) e es w))

  pub demands_grown : (program : Program) (models : List ModelData) (e : NumberedEntry) → IsEntryWithin a e → MakesDemands program models a e → MakesDemands program models b e
  demands_grown program models e w makes number =
      item_demands_grown number e.demands w.demands ∙ makes number ∙ ap (entry_demands program models number) (sym (entry_grown e w))

  pub all_demands_grown : (program : Program) (models : List ModelData) (es : List NumberedEntry) → All (IsEntryWithin a) es → All (MakesDemands program models a) es → All (MakesDemands program models b) es
  all_demands_grown program models es w makes k d lt = demands_grown program models _ (w k d lt) (makes k d lt)
