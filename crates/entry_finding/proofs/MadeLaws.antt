-- The entry of a binding by what is known in it, and in the table of its terms.
use Rattle.std.specs.Prelude.{◌≡◌, ℕ, Bool, false, List, [], ◌∷◌, ◌++◌, map, length, Option, None, Some, is_some, slice_get, slice_index_or, All, if◌then◌else◌}
use Rattle.std.specs.List.{filter_map, range_with_len}
use Rattle.std.specs.Option.{option_map, option_map_or}
use Rattle.std.proofs.Common.{refl, sym, ap, subst, ◌∙◌}
use Rattle.std.proofs.lemmas.List.Elements.{All-nil}
use Rattle.object_tables.specs.Models.{ModelData}
use Rattle.qv_syntax.specs.declared.program.Program.{Program}
use Rattle.qv_syntax.specs.declared.program.Rel.{Rel}
use Rattle.repair_semantics.specs.declared.term.Term.{Term}
use Rattle.repair_semantics.specs.declared.term.TermValue.{TermValue}
use Rattle.repair_semantics.specs.declared.demand.Demand.{Demand}
use Rattle.repair_semantics.specs.declared.entry.Entry.{Entry}
use Rattle.repair_semantics.specs.declared.entry.EntryName.{EntryName}
use Rattle.repair_semantics.specs.declared.entry.Place.{Place}
use Rattle.repair_semantics.specs.EntryValues.{TermValues, Known, value_of}
use Rattle.repair_semantics.specs.TargetItems.{target_items}
use Rattle.repair_semantics.specs.Making.{others_in, entry_known}
use Rattle.repair_semantics.specs.Unmet.{unmet_at, is_unmet}
use Rattle.repair_semantics.specs.Entries.{calls_in, entry_of, calls_where, entry_calls}
use Rattle.repair_semantics.specs.Demands.{item_demands, demands_where, entry_demands}
use Rattle.term_table.specs.declared.numbered.NumberedValue.{NumberedValue}
use Rattle.term_table.specs.TermTables.{value_in, values_in}
use Rattle.entry_making.specs.declared.item_demand.ItemDemand.{ItemDemand}
use Rattle.entry_making.specs.declared.numbered_call.NumberedCall.{NumberedCall}
use Rattle.entry_making.specs.declared.numbered_known.NumberedKnown.{NumberedKnown}
use Rattle.entry_making.specs.Numbered.{IsValueWithin, known_of}
use Rattle.entry_making.specs.CallNumbers.{call_of, calls_of}
use Rattle.entry_making.proofs.DecodedLaws.{value_shown}
use Rattle.entry_finding.specs.declared.numbered_entry.NumberedEntry.{NumberedEntry}
use Rattle.entry_finding.specs.declared.found.UnmetEntry.{UnmetEntry}
use Rattle.entry_finding.specs.declared.made.MetEntry.{MetEntry}
use Rattle.entry_finding.specs.declared.made.Made.{Made}
use Rattle.entry_finding.specs.declared.made.Made.TheVariants as outcomes
use Rattle.entry_finding.specs.Found.{entry_in, IsDemandWithin, IsEntryWithin, is_entry_unmet}
use Rattle.entry_finding.specs.Made.{other_number, other_numbers, numbered_entry, entry_with, IsMadeBy, IsUnmetBy, IsOutcomeBy, IsMet, IsUnmetOf, IsOutcome}
use Rattle.entry_finding.proofs.GrownLaws.{values_grown}
use Rattle.entry_finding.proofs.InsideLaws.{options_inside, demands_inside, calls_inside}

-- ---- what is made, by numbers

module _ (terms : List Term) (b all : List (Option NumberedValue)) where
  abbrev other : ℕ → Option TermValue
  other v = if is_some (value_of (values_in terms b) v) then None else value_of (values_in terms all) v

  one_shown : (v : ℕ) → option_map (value_in terms) (other_number b all v) ≡ other v
  one_shown v = by (slice_index_or b v None) refl
    where
      by : (o : Option NumberedValue) → slice_index_or b v None ≡ o → option_map (value_in terms) (other_number b all v) ≡ other v
      by None at =
          ap (λ (o : Option NumberedValue). option_map (value_in terms) (if is_some o then None else slice_index_or all v None)) at
          ∙ value_shown terms all v
          ∙ sym (ap (λ (o : Option TermValue). if is_some o then None else value_of (values_in terms all) v) (sym (value_shown terms b v) ∙ ap (option_map (value_in terms)) at))
      by (Some x) at =
          ap (λ (o : Option NumberedValue). option_map (value_in terms) (if is_some o then None else slice_index_or all v None)) at
          ∙ sym (ap (λ (o : Option TermValue). if is_some o then None else value_of (values_in terms all) v) (sym (value_shown terms b v) ∙ ap (option_map (value_in terms)) at))

  each_shown : (vs : List ℕ) → values_in terms (map (other_number b all) vs) ≡ map other vs
  each_shown [] = refl
  each_shown (v ∷ vs) = ap (λ o. o ∷ values_in terms (map (other_number b all) vs)) (one_shown v) ∙ ap (λ os. other v ∷ os) (each_shown vs)

  pub others_shown : (rel : Rel) → length b ≡ length rel.vars → values_in terms (other_numbers b all) ≡ others_in rel (values_in terms b) (values_in terms all)
  others_shown rel long = each_shown (range_with_len 0 (length b)) ∙ ap (λ n. map other (range_with_len 0 n)) long

pub entry_shown : (terms : List Term) (number : ℕ) (rel : Rel) (called : Bool) (b : List (Option NumberedValue)) (k : NumberedKnown) (demands : List ItemDemand) → length b ≡ length rel.vars
    → entry_in terms (numbered_entry number called b k.values demands) ≡ entry_with number rel called (values_in terms b) (known_of terms k)
entry_shown terms number rel called b k demands long =
    ap (λ (vs : TermValues). let e : Entry = record { rel = number; called = called; values = values_in terms b; made = vs } in e) (others_shown terms b k.values rel long)

-- the calls that are made, by numbers and by terms
pub calls_given : (terms : List Term) (cs : List (Option NumberedCall)) → map (call_of terms) (filter_map (λ c. c) cs) ≡ filter_map (λ c. c) (calls_of terms cs)
calls_given terms [] = refl
calls_given terms (None ∷ cs) = calls_given terms cs
calls_given terms (Some c ∷ cs) = ap (λ (xs : List EntryName). call_of terms c ∷ xs) (calls_given terms cs)

-- ---- in a table

module _ (program : Program) (models : List ModelData) (number : ℕ) (rel : Rel) (called : Bool) (found : slice_get program.rels number ≡ Some rel) (bv : TermValues) where
  abbrev own : Known
  own = entry_known program models rel bv

  abbrev its_entry : Entry
  its_entry = entry_of program models number rel called bv

  met_is : unmet_at program models rel own ≡ None → is_entry_unmet program models its_entry ≡ false
  met_is none =
      ap (λ (o : Option Rel). option_map_or (λ r. is_unmet program models r (entry_known program models r bv)) o false) found
      ∙ ap (λ (o : Option Place). is_some o) none

  calls_are : unmet_at program models rel own ≡ None → entry_calls program models its_entry ≡ filter_map (λ c. c) (calls_in program models own rel.wheres)
  calls_are none =
      ap (λ (o : Option Rel). let none : List EntryName = [] in option_map_or (λ r. calls_where program models r (entry_known program models r bv)) o none) found
      ∙ ap (λ (o : Option Place). let none : List EntryName = [] in if is_some o then none else filter_map (λ c. c) (calls_in program models own rel.wheres)) none

  demands_are : unmet_at program models rel own ≡ None → (n : ℕ) → entry_demands program models n its_entry ≡ item_demands program models own n (target_items program rel)
  demands_are none n =
      ap (λ (o : Option Rel). let none : List Demand = [] in option_map_or (λ r. demands_where program models n r (entry_known program models r bv)) o none) found
      ∙ ap (λ (o : Option Place). let none : List Demand = [] in if is_some o then none else item_demands program models own n (target_items program rel)) none

module _ (program : Program) (models : List ModelData) (number : ℕ) (rel : Rel) (called : Bool) (found : slice_get program.rels number ≡ Some rel)
    (terms : List Term) (b : List (Option NumberedValue)) (k : NumberedKnown) (bv : TermValues) (b_is : values_in terms b ≡ bv) (k_is : known_of terms k ≡ entry_known program models rel bv)
    (b_within : All (IsValueWithin terms) b) (k_within : All (IsValueWithin terms) k.values) where
  abbrev with : List Term → Entry
  with ts = entry_with number rel called (values_in ts b) (known_of ts k)

  known_more : (more : List Term) → known_of (terms ++ more) k ≡ known_of terms k
  known_more more = ap (λ (vs : TermValues). let x : Known = record { values = vs; scope = k.scope } in x) (values_grown terms (terms ++ more) (more, refl) k.values k_within)

  with_more : (more : List Term) → with (terms ++ more) ≡ with terms
  with_more more =
      ap (λ (vs : TermValues). entry_with number rel called vs (known_of (terms ++ more) k)) (values_grown terms (terms ++ more) (more, refl) b b_within)
      ∙ ap (entry_with number rel called (values_in terms b)) (known_more more)

  module _ (e : NumberedEntry) (entry : (ts : List Term) → entry_in ts e ≡ with ts) where
    entry_more : (more : List Term) → entry_in (terms ++ more) e ≡ entry_in terms e
    entry_more more = entry (terms ++ more) ∙ with_more more ∙ sym (entry terms)

    entry_is : entry_in terms e ≡ entry_of program models number rel called bv
    entry_is =
        entry terms ∙ ap (λ (vs : TermValues). entry_with number rel called vs (known_of terms k)) b_is ∙ ap (entry_with number rel called bv) k_is

    entry_within : All (IsDemandWithin terms) e.demands → IsEntryWithin terms e
    entry_within demands = record {
      values = options_inside terms e.values (λ more. ap (λ (x : Entry). x.values) (entry_more more));
      made = options_inside terms e.made (λ more. ap (λ (x : Entry). x.made) (entry_more more));
      demands = demands;
    }

  met_by : (m : MetEntry) → ((ts : List Term) → (unmet_at program models rel (known_of ts k) ≡ None) × IsMadeBy program models number rel called (values_in ts b) (known_of ts k) ts m)
      → IsMet program models terms number rel called bv m
  met_by m by =
      let none : unmet_at program models rel (entry_known program models rel bv) ≡ None = sym (ap (unmet_at program models rel) k_is) ∙ (by terms).0 in
      let is = entry_is m.entry (λ ts. (by ts).1.entry) in
      record {
        entry = is;
        met = ap (is_entry_unmet program models) is ∙ met_is program models number rel called found bv none;
        calls =
            (by terms).1.calls ∙ ap (λ (x : Known). filter_map (λ c. c) (calls_in program models x rel.wheres)) k_is ∙ sym (calls_are program models number rel called found bv none)
            ∙ ap (entry_calls program models) (sym is);
        demands = λ n.
            (by terms).1.demands n ∙ ap (λ (x : Known). item_demands program models x n (target_items program rel)) k_is ∙ sym (demands_are program models number rel called found bv none n)
            ∙ ap (entry_demands program models n) (sym is);
        within = entry_within m.entry (λ ts. (by ts).1.entry) (demands_inside terms m.entry.demands (λ more.
            (by (terms ++ more)).1.demands 0 ∙ ap (λ (x : Known). item_demands program models x 0 (target_items program rel)) (known_more more) ∙ sym ((by terms).1.demands 0)));
        calls_within = calls_inside terms m.calls (λ more.
            (by (terms ++ more)).1.calls ∙ ap (λ (x : Known). filter_map (λ c. c) (calls_in program models x rel.wheres)) (known_more more) ∙ sym ((by terms).1.calls));
      }

  unmet_by : (u : UnmetEntry) → ((ts : List Term) → IsUnmetBy program models number rel called (values_in ts b) (known_of ts k) ts u) → IsUnmetOf program models terms number rel called bv u
  unmet_by u by =
      let is = entry_is u.entry (λ ts. (by ts).entry) in
      record {
        entry = is;
        place = record {
          rel = rel;
          found = ap (λ (x : Entry). slice_get program.rels x.rel) is ∙ found;
          first =
              ap (λ (x : Entry). unmet_at program models rel (entry_known program models rel x.values)) is
              ∙ sym (ap (unmet_at program models rel) k_is) ∙ (by terms).place;
        };
        within = entry_within u.entry (λ ts. (by ts).entry) (subst (All (IsDemandWithin terms)) (sym (by terms).demands) (All-nil (IsDemandWithin terms)));
      }

  -- what is found of a binding whatever the numbers stand for is found in a table in which they are
  pub outcome_in : (m : Made) → ((ts : List Term) → IsOutcomeBy program models number rel called (values_in ts b) (known_of ts k) ts m) → IsOutcome program models terms number rel called bv m
  outcome_in (outcomes.Met m) by = met_by m by
  outcome_in (outcomes.Unmet u) by = unmet_by u by
