-- Wrong answers that the definitions exclude: what the definition gives on a small case, and that it isn't what the wrong code would
-- answer. A contract says that the code's result is what the definition gives, so it refuses that code.
use Rattle.std.specs.Prelude.{◌≡◌, ◌≢◌, ◌<◌, ℕ, Bool, true, false, List, [], ◌∷◌, ◌++◌, codes, length, get_or, Option, None, Some, slice_get, Contains, AllPairs}
use Rattle.std.specs.declared.cmp.Ordering.TheVariants.{Less, Greater}
use Rattle.std.proofs.Common.{refl, sym, ap, subst, ◌∙◌, arith}
use Rattle.std.proofs.Math.ListN.{get_or-append}
use Rattle.std.proofs.Math.Seq.{get_or-append_seam}
use Rattle.std.proofs.lemmas.List.{length-append}
use Rattle.std.proofs.lemmas.Option.{slice_get_within, same_Some}
use Rattle.object_tables.specs.declared.value.Value.TheVariants as values
use Rattle.object_tables.specs.Models.{ModelData}
use Rattle.qv_syntax.specs.declared.program.Program.{Program}
use Rattle.qvtr_semantics.specs.declared.datum.Datum.TheVariants as datums
use Rattle.qvtr_semantics.specs.SmallModels.{rdb}
use Rattle.repair_semantics.specs.declared.term.Term as terms
use Rattle.repair_semantics.specs.declared.term.TermValue.{TermValue, out-TermValue, out-roll-TermValue}
use Rattle.repair_semantics.specs.declared.term.TermValue.TheOpen as of
use Rattle.repair_semantics.specs.declared.entry.Entry.{Entry}
use Rattle.repair_semantics.specs.declared.entry.EntryName.{EntryName}
use Rattle.repair_semantics.specs.declared.demand.Demand.{Demand}
use Rattle.repair_semantics.specs.declared.demand.Clash.{Clash}
use Rattle.repair_semantics.specs.EntryOrder.{entry_order}
use Rattle.repair_semantics.specs.EntryChains.{DeepEntries}
use Rattle.repair_semantics.specs.Conflicts.{IsClash}
use Rattle.repair_semantics.specs.SmallRepairs.{text_value, second_name, two_names}
use Rattle.term_table.specs.declared.numbered.NumberedValue.TheVariants.{Term}
use Rattle.entry_finding.specs.declared.numbered_entry.NumberedEntry.{NumberedEntry}
use Rattle.entry_making.specs.declared.item_demand.ItemDemand.{ItemDemand}
use Rattle.demand_conflicts.specs.declared.demand.NumberedDemand.{NumberedDemand}
use Rattle.demand_set.specs.declared.demand_error.DemandError.TheVariants as errors
use Rattle.demand_set.specs.DemandSets.{IsRefusal}
use Rattle.demand_set.specs.Listings.{numbered_demand, term_numbers, listed_from}

-- ---- the order of entries: a called one without a value comes before one with a value that isn't called

abbrev entry : Bool → Option TermValue → Entry
entry called v = record { rel = 0; called = called; values = v ∷ []; made = [] }

pub values_come_first : entry_order (entry true None) (entry false (Some (text_value (codes "a")))) ≡ Less
values_come_first = refl

-- whether an entry is called, before its values
pub called_before_values : entry_order (entry true None) (entry false (Some (text_value (codes "a")))) ≡ Greater → ⊥
called_before_values e = cc

-- ---- chains of calls

-- a call stands twice in a chain of distinct calls
twice_in : (chain before : List EntryName) (last : EntryName) → chain ≡ before ++ last ∷ [] → Contains before last → AllPairs (λ c d. c ≢ d) chain → ⊥
twice_in chain before last is (k, within, at) distinct =
    let pairs = subst (λ (cs : List EntryName). AllPairs (λ c d. c ≢ d) cs) is distinct in
    pairs k (length before) last within (omega (arith, length-append before (last ∷ [])))
    (get_or-append before (last ∷ []) last k within ∙ at ∙ sym (get_or-append_seam before last [] last))

-- a chain that is too long is told as one that comes back to a call
pub deep_as_cycle : (program : Program) (models : List ModelData) (chain : List EntryName) → DeepEntries program models chain → IsRefusal program models (errors.Cycle chain) → ⊥
deep_as_cycle program models chain long told =
    let cycle = told.cyclic in
    twice_in chain cycle.before cycle.last cycle.is cycle.repeat long.deep.distinct

-- ---- a conflict: a schema gets the names `a` and `x`

abbrev letter_in : of.TermValue-F TermValue terms.Term → ℕ
letter_in (of.Val (datums.Val m (values.Str s))) = get_or s 0 0
letter_in v = 0

abbrev letter : TermValue → ℕ
letter v = letter_in (out-TermValue v)

letter_of : (s : List ℕ) → letter (text_value s) ≡ get_or s 0 0
letter_of s = ap letter_in (out-roll-TermValue (of.Val (datums.Val 0 (values.Str s))))

second_of : (k : ℕ) (d : Demand) → 0 < k → slice_get two_names k ≡ Some d → second_name ≡ d
second_of k d later is =
    let within : k < 2 = slice_get_within two_names k d is in
    let one : k ≡ 1 = omega (arith, later, within) in
    same_Some second_name d (subst (λ n. slice_get two_names n ≡ Some d) one is)

-- both sides of the conflict are those of the first demand
pub one_side_twice : (entries : List Entry) (clash : Clash) → IsClash rdb entries two_names clash → clash.second_value ≡ text_value (codes "a") → ⊥
one_side_twice entries clash is wrong =
    let before = is.conflict.before in
    let second = second_of is.conflict.later is.second (omega (arith, before)) is.conflict.second_is in
    let same : text_value (codes "x") ≡ text_value (codes "a") = ap (λ (d : Demand). d.value) second ∙ sym is.second_value ∙ wrong in
    let apart : ◌≡◌ {A = ℕ} 120 97 = sym (letter_of (codes "x")) ∙ ap letter same ∙ letter_of (codes "a") in
    omega (arith, apart)

-- ---- demands by number

abbrev link : ItemDemand
link = record { owner = 1; prop = record { 0 = 2 }; value = Term 0 }

pub owner_and_value : term_numbers (numbered_demand 0 link) ≡ 1 ∷ 0 ∷ []
owner_and_value = refl

-- the owners of demands alone
pub owners_alone : term_numbers (numbered_demand 0 link) ≡ 1 ∷ [] → ⊥
owners_alone e = cc

abbrev numbered_entry : List ItemDemand → NumberedEntry
numbered_entry ds = record { rel = 0; called = false; values = []; made = []; demands = ds }

pub second_entry_demands : listed_from 0 (numbered_entry [] ∷ numbered_entry (link ∷ []) ∷ []) ≡ numbered_demand 1 link ∷ []
second_entry_demands = refl

abbrev entry_of_first : List NumberedDemand → ℕ
entry_of_first [] = 0
entry_of_first (d ∷ ds) = d.entry

-- the place among the demands in place of that of the entry
pub place_among_demands : listed_from 0 (numbered_entry [] ∷ numbered_entry (link ∷ []) ∷ []) ≡ numbered_demand 0 link ∷ [] → ⊥
place_among_demands e = let apart : 1 ≡ 0 = ap entry_of_first e in omega (arith, apart)
