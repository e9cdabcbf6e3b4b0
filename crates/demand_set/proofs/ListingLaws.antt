-- Demands that are moved out of their entries, and the terms in them, by number: they are those of the entries.
use Rattle.std.specs.Prelude.{◌≡◌, ◌<◌, ◌+◌, ℕ, suc, List, [], ◌∷◌, ◌++◌, map, length, Option, None, Some, All}
use Rattle.std.specs.List.{flat_map}
use Rattle.std.specs.Option.{option_to_list}
use Rattle.std.proofs.Common.{refl, sym, ap, subst, ◌∙◌, arith, append_assoc, append-nil}
use Rattle.std.proofs.lemmas.List.{map-append, length-map}
use Rattle.std.proofs.lemmas.List.Elements.{All-nil, All-cons, All-head, All-tail, All-append, All-map, All-weaker}
use Rattle.std.proofs.lemmas.Simd.{map-map}
use Rattle.object_tables.specs.Models.{ModelData}
use Rattle.qv_syntax.specs.declared.program.Program.{Program}
use Rattle.repair_semantics.specs.declared.term.Term.{Term}
use Rattle.repair_semantics.specs.declared.demand.Demand.{Demand}
use Rattle.repair_semantics.specs.Terms.{term_in, term_part}
use Rattle.repair_semantics.specs.Demands.{entry_demands, demands_from, terms_in}
use Rattle.term_table.specs.declared.numbered.NumberedValue.{NumberedValue}
use Rattle.term_table.specs.declared.numbered.NumberedValue.TheVariants as numbered
use Rattle.term_table.specs.TermTables.{term_at, value_in, IsWithin}
use Rattle.term_table.proofs.TermTableLaws.{out_datum, out_term}
use Rattle.entry_making.specs.declared.item_demand.ItemDemand.{ItemDemand}
use Rattle.entry_making.specs.DemandNumbers.{term_number, demand_of}
use Rattle.demand_conflicts.specs.declared.demand.NumberedDemand.{NumberedDemand}
use Rattle.demand_conflicts.specs.NumberedDemands.{demand_in, demands_in, IsDemandWithin}
use Rattle.entry_finding.specs.declared.numbered_entry.NumberedEntry.{NumberedEntry}
use Rattle.entry_finding.specs.Found as found
use Rattle.entry_finding.specs.Found.{entry_in, entries_in, IsEntryWithin, MakesDemands}
use Rattle.demand_set.specs.declared.listing.ListedEntry.{ListedEntry}
use Rattle.demand_set.specs.Listings.{listed_of, listed_in, IsListedWithin, numbered_demand, listed_from, term_numbers, AreKept}

-- ---- one entry more

pub listed_more : (n : ℕ) (es : List NumberedEntry) (e : NumberedEntry) → listed_from n (es ++ e ∷ []) ≡ listed_from n es ++ map (numbered_demand (n + length es)) e.demands
listed_more n [] e =
    let here : n ≡ n + length {A = NumberedEntry} [] = omega arith in
    append-nil (map (numbered_demand n) e.demands) ∙ ap (λ k. map (numbered_demand k) e.demands) here
listed_more n (x ∷ es) e =
    let next : suc n + length es ≡ n + length (x ∷ es) = omega arith in
    ap (λ ds. map (numbered_demand n) x.demands ++ ds) (listed_more (suc n) es e ∙ ap (λ k. listed_from (suc n) es ++ map (numbered_demand k) e.demands) next)
    ∙ sym (append_assoc (map (numbered_demand n) x.demands) (listed_from (suc n) es) (map (numbered_demand (n + length (x ∷ es))) e.demands))

-- ---- what is listed

pub listed_entries : (terms : List Term) (es : List NumberedEntry) → map (listed_in terms) (map listed_of es) ≡ entries_in terms es
listed_entries terms [] = refl
listed_entries terms (e ∷ es) = ap (λ xs. entry_in terms e ∷ xs) (listed_entries terms es)

-- the demands of an entry at a place
one_told : (terms : List Term) (n : ℕ) (ds : List ItemDemand) → demands_in terms (map (numbered_demand n) ds) ≡ map (demand_of terms n) ds
one_told terms n [] = refl
one_told terms n (d ∷ ds) = ap (λ xs. demand_of terms n d ∷ xs) (one_told terms n ds)

pub demands_told : (program : Program) (models : List ModelData) (terms : List Term) (n : ℕ) (es : List NumberedEntry) → All (MakesDemands program models terms) es
    → demands_in terms (listed_from n es) ≡ demands_from program models n (entries_in terms es)
demands_told program models terms n [] made = refl
demands_told program models terms n (e ∷ es) made =
    map-append (demand_in terms) (map (numbered_demand n) e.demands) (listed_from (suc n) es)
    ∙ ap (λ ds. ds ++ demands_in terms (listed_from (suc n) es)) (one_told terms n e.demands ∙ All-head (MakesDemands program models terms) e es made n)
    ∙ ap (λ ds. entry_demands program models n (entry_in terms e) ++ ds) (demands_told program models terms (suc n) es (All-tail (MakesDemands program models terms) e es made))

-- ---- numbers of the table

entries_kept : (terms : List Term) (es : List NumberedEntry) → All (IsEntryWithin terms) es → All (IsListedWithin terms) (map listed_of es)
entries_kept terms es within =
    All-map (IsListedWithin terms) listed_of es (All-weaker (IsEntryWithin terms) (λ e. IsListedWithin terms (listed_of e)) (λ e w. record { values = w.values; made = w.made }) es within)

pub listed_within : (terms : List Term) (es : List NumberedEntry) (ls : List ListedEntry) → All (IsEntryWithin terms) es → ls ≡ map listed_of es → All (IsListedWithin terms) ls
listed_within terms es ls within is = subst (All (IsListedWithin terms)) (sym is) (entries_kept terms es within)

one_within : (terms : List Term) (n : ℕ) (e : NumberedEntry) → IsEntryWithin terms e → All (IsDemandWithin terms) (map (numbered_demand n) e.demands)
one_within terms n e w = All-map (IsDemandWithin terms) (numbered_demand n) e.demands (All-weaker (found.IsDemandWithin terms) (λ d. IsDemandWithin terms (numbered_demand n d)) (λ d x. (x.owner, x.value)) e.demands w.demands)

pub demands_within : (terms : List Term) (n : ℕ) (es : List NumberedEntry) → All (IsEntryWithin terms) es → All (IsDemandWithin terms) (listed_from n es)
demands_within terms n [] within = All-nil (IsDemandWithin terms)
demands_within terms n (e ∷ es) within =
    All-append (IsDemandWithin terms) (map (numbered_demand n) e.demands) (listed_from (suc n) es) (one_within terms n e (All-head (IsEntryWithin terms) e es within))
    (demands_within terms (suc n) es (All-tail (IsEntryWithin terms) e es within))

abbrev IsPlacedBelow : ℕ → NumberedDemand → Type 0
IsPlacedBelow count d = d.entry < count

one_placed : (n count : ℕ) → n < count → (ds : List ItemDemand) → All (IsPlacedBelow count) (map (numbered_demand n) ds)
one_placed n count less [] = All-nil (IsPlacedBelow count)
one_placed n count less (d ∷ ds) = All-cons (IsPlacedBelow count) (numbered_demand n d) (map (numbered_demand n) ds) less (one_placed n count less ds)

placed_from : (n count : ℕ) (es : List NumberedEntry) → n + length es ≡ count → All (IsPlacedBelow count) (listed_from n es)
placed_from n count [] is = All-nil (IsPlacedBelow count)
placed_from n count (e ∷ es) is =
    All-append (IsPlacedBelow count) (map (numbered_demand n) e.demands) (listed_from (suc n) es) (one_placed n count (omega (arith, is)) e.demands)
    (placed_from (suc n) count es (omega (arith, is)))

pub demands_placed : (es : List NumberedEntry) (ls : List ListedEntry) → ls ≡ map listed_of es → All (λ (d : NumberedDemand). d.entry < length ls) (listed_from 0 es)
demands_placed es ls is = placed_from 0 (length ls) es (omega (arith, ap length is, length-map es listed_of))

-- ---- terms

value_terms : (terms : List Term) (v : NumberedValue) → map (term_at terms) (option_to_list (term_number v)) ≡ option_to_list (term_in (value_in terms v))
value_terms terms (numbered.Val d) = ap (λ l. option_to_list (term_part l)) (sym (out_datum d))
value_terms terms (numbered.Term n) = ap (λ l. option_to_list (term_part l)) (sym (out_term (term_at terms n)))

pub terms_told : (terms : List Term) (ds : List NumberedDemand) → map (term_at terms) (flat_map term_numbers ds) ≡ flat_map terms_in (demands_in terms ds)
terms_told terms [] = refl
terms_told terms (d ∷ ds) =
    map-append (term_at terms) (term_numbers d) (flat_map term_numbers ds)
    ∙ ap (λ ts. (term_at terms d.owner ∷ ts) ++ map (term_at terms) (flat_map term_numbers ds)) (value_terms terms d.value)
    ∙ ap (λ ts. terms_in (demand_in terms d) ++ ts) (terms_told terms ds)

abbrev IsNumber : List Term → ℕ → Type 0
IsNumber terms n = n < length terms

value_number : (terms : List Term) (v : NumberedValue) → IsWithin terms v → All (IsNumber terms) (option_to_list (term_number v))
value_number terms (numbered.Val d) w = All-nil (IsNumber terms)
value_number terms (numbered.Term n) w = All-cons (IsNumber terms) n [] w (All-nil (IsNumber terms))

pub numbers_within : (terms : List Term) (ds : List NumberedDemand) → All (IsDemandWithin terms) ds → All (λ n. n < length terms) (flat_map term_numbers ds)
numbers_within terms [] within = All-nil (IsNumber terms)
numbers_within terms (d ∷ ds) within =
    let here : IsDemandWithin terms d = All-head (IsDemandWithin terms) d ds within in
    All-append (IsNumber terms) (term_numbers d) (flat_map term_numbers ds)
    (All-cons (IsNumber terms) d.owner (option_to_list (term_number d.value)) here.0 (value_number terms d.value here.1))
    (numbers_within terms ds (All-tail (IsDemandWithin terms) d ds within))

-- ---- what is kept

-- one entry more is listed, with its demands
pub listing_step : (es : List NumberedEntry) (e : NumberedEntry) (ls ls' : List ListedEntry) (ds ds' : List NumberedDemand) → ls ≡ map listed_of es → ds ≡ listed_from 0 es
    → ls' ≡ ls ++ listed_of e ∷ [] → ds' ≡ ds ++ map (numbered_demand (length ls)) e.demands → (ls' ≡ map listed_of (es ++ e ∷ [])) × (ds' ≡ listed_from 0 (es ++ e ∷ []))
listing_step es e ls ls' ds ds' a b p q =
    let long : length ls ≡ 0 + length es = omega (arith, ap length a, length-map es listed_of) in (
      p ∙ ap (λ xs. xs ++ listed_of e ∷ []) a ∙ sym (map-append listed_of es (e ∷ [])),
      q ∙ ap (λ xs. xs ++ map (numbered_demand (length ls)) e.demands) b ∙ ap (λ n. listed_from 0 es ++ map (numbered_demand n) e.demands) long ∙ sym (listed_more 0 es e),
    )

pub are_kept : (terms : List Term) (es : List NumberedEntry) (ls : List ListedEntry) (ds : List NumberedDemand) (ns : List ℕ) → All (IsEntryWithin terms) es → ls ≡ map listed_of es
    → ds ≡ listed_from 0 es → All (λ n. n < length terms) ns → AreKept terms ls ds ns
are_kept terms es ls ds ns within a b numbers = record {
  entries_within = listed_within terms es ls within a;
  demands_within = subst (All (IsDemandWithin terms)) (sym b) (demands_within terms 0 es within);
  placed = subst (All (λ (d : NumberedDemand). d.entry < length ls)) (sym b) (demands_placed es ls a);
  numbers_within = numbers;
}

-- each demand is that of one of the entries
pub placed_told : (terms : List Term) (ls : List ListedEntry) (ds : List NumberedDemand) → All (λ (d : NumberedDemand). d.entry < length ls) ds
    → All (λ (x : Demand). x.entry < length (map (listed_in terms) ls)) (demands_in terms ds)
placed_told terms ls ds placed =
    All-map (λ (x : Demand). x.entry < length (map (listed_in terms) ls)) (demand_in terms) ds
    (All-weaker (λ (d : NumberedDemand). d.entry < length ls) (λ (d : NumberedDemand). d.entry < length (map (listed_in terms) ls)) (λ d less. omega (arith, less, length-map ls (listed_in terms))) ds placed)
