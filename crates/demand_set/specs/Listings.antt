-- Entries in their order with all their demands in one list, by the numbers of terms.
use Rattle.std.specs.Prelude.{◌<◌, ℕ, suc, List, [], ◌∷◌, ◌++◌, map, length, All}
use Rattle.std.specs.Option.{option_to_list}
use Rattle.repair_semantics.specs.declared.term.Term.{Term}
use Rattle.repair_semantics.specs.declared.entry.Entry.{Entry}
use Rattle.term_table.specs.TermTables.{values_in}
use Rattle.entry_making.specs.declared.item_demand.ItemDemand.{ItemDemand}
use Rattle.entry_making.specs.Numbered.{IsValueWithin}
use Rattle.entry_making.specs.DemandNumbers.{term_number}
use Rattle.demand_conflicts.specs.declared.demand.NumberedDemand.{NumberedDemand}
use Rattle.demand_conflicts.specs.NumberedDemands.{IsDemandWithin}
use Rattle.entry_finding.specs.declared.numbered_entry.NumberedEntry.{NumberedEntry}
use Rattle.demand_set.specs.declared.listing.ListedEntry.{ListedEntry}

-- an entry without its demands
abbrev pub listed_of : NumberedEntry → ListedEntry
listed_of e = record { rel = e.rel; called = e.called; values = e.values; made = e.made }

-- the entry with terms for the numbers
abbrev pub listed_in : List Term → ListedEntry → Entry
listed_in terms e = record { rel = e.rel; called = e.called; values = values_in terms e.values; made = values_in terms e.made }

-- its numbers are numbers of the table
pub record IsListedWithin (terms : List Term) (e : ListedEntry) : Type 0 where
  pub values : All (IsValueWithin terms) e.values
  pub made : All (IsValueWithin terms) e.made

-- the demand of the entry at a place
abbrev pub numbered_demand : ℕ → ItemDemand → NumberedDemand
numbered_demand entry d = record { entry = entry; owner = d.owner; prop = d.prop; value = d.value }

-- the demands of entries, of which so many stand before these
abbrev pub listed_from : ℕ → List NumberedEntry → List NumberedDemand
listed_from before [] = []
listed_from before (e ∷ es) = map (numbered_demand before) e.demands ++ listed_from (suc before) es

-- the number of the owner of a demand, and that of its value where that is a term
abbrev pub term_numbers : NumberedDemand → List ℕ
term_numbers d = d.owner ∷ option_to_list (term_number d.value)

-- entries and demands of a table: each demand is that of one of the entries, and the numbers are numbers of the table
pub record AreKept (terms : List Term) (entries : List ListedEntry) (demands : List NumberedDemand) (numbers : List ℕ) : Type 0 where
  pub entries_within : All (IsListedWithin terms) entries
  pub demands_within : All (IsDemandWithin terms) demands
  pub placed : All (λ (d : NumberedDemand). d.entry < length entries) demands
  pub numbers_within : All (λ n. n < length terms) numbers
