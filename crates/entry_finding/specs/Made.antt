-- What is found of one binding: its entry with the calls that it makes, or that it is unmet; by what is known in the entry, and in a table (QVT 1.3,
-- sections 7.2.3, 7.10.1 and 7.10.2; entries and terms by number are this engine's own).
use Rattle.std.specs.Prelude.{◌≡◌, ℕ, Bool, false, List, [], map, length, Option, None, Some, is_some, slice_index_or, Contains, All, if◌then◌else◌}
use Rattle.std.specs.List.{filter_map, flat_map, range_with_len}
use Rattle.object_tables.specs.Models.{ModelData}
use Rattle.qv_syntax.specs.declared.program.Program.{Program}
use Rattle.qv_syntax.specs.declared.program.Rel.{Rel}
use Rattle.repair_semantics.specs.declared.term.Term.{Term}
use Rattle.repair_semantics.specs.declared.entry.Entry.{Entry}
use Rattle.repair_semantics.specs.EntryValues.{TermValues, Known}
use Rattle.repair_semantics.specs.TargetItems.{target_items}
use Rattle.repair_semantics.specs.Making.{others_in}
use Rattle.repair_semantics.specs.Unmet.{unmet_at}
use Rattle.repair_semantics.specs.Entries.{calls_in, entry_of, entry_calls}
use Rattle.repair_semantics.specs.Demands.{item_demands}
use Rattle.term_table.specs.declared.numbered.NumberedValue.{NumberedValue}
use Rattle.term_table.specs.TermTables.{values_in}
use Rattle.entry_making.specs.declared.item_demand.ItemDemand.{ItemDemand}
use Rattle.entry_making.specs.Numbered.{IsValueWithin}
use Rattle.entry_making.specs.KeyedVariables.{AreGiven}
use Rattle.entry_making.specs.CallNumbers.{call_of}
use Rattle.entry_making.specs.DemandNumbers.{demand_of}
use Rattle.entry_finding.specs.declared.numbered_entry.NumberedEntry.{NumberedEntry}
use Rattle.entry_finding.specs.declared.found.Found.{Found}
use Rattle.entry_finding.specs.declared.found.UnmetEntry.{UnmetEntry}
use Rattle.entry_finding.specs.declared.made.MetEntry.{MetEntry}
use Rattle.entry_finding.specs.declared.made.Made.{Made}
use Rattle.entry_finding.specs.declared.made.Made.TheVariants as outcomes
use Rattle.entry_finding.specs.Found.{entry_in, entries_in, IsEntryWithin, IsCallWithin, is_entry_unmet, IsUnmetAt, MakesDemands}

-- ---- by numbers

-- the value that is made for a variable: nothing where it has one already
abbrev pub other_number : List (Option NumberedValue) → List (Option NumberedValue) → ℕ → Option NumberedValue
other_number b all v = if is_some (slice_index_or b v None) then None else slice_index_or all v None

abbrev pub other_numbers : List (Option NumberedValue) → List (Option NumberedValue) → List (Option NumberedValue)
other_numbers b all = map (other_number b all) (range_with_len 0 (length b))

-- the entry with these values, in which all have these, and with these demands
abbrev pub numbered_entry : ℕ → Bool → List (Option NumberedValue) → List (Option NumberedValue) → List ItemDemand → NumberedEntry
numbered_entry number called b all demands = record { rel = number; called = called; values = b; made = other_numbers b all; demands = demands }

-- ---- by what is known

-- the entry with these values in which so much is known
abbrev pub entry_with : ℕ → Rel → Bool → TermValues → Known → Entry
entry_with number rel called b k = record { rel = number; called = called; values = b; made = others_in rel b k.values }

-- the entry, with its calls and demands
pub record IsMadeBy (program : Program) (models : List ModelData) (number : ℕ) (rel : Rel) (called : Bool) (b : TermValues) (k : Known) (terms : List Term) (m : MetEntry) : Type 0 where
  pub entry : entry_in terms m.entry ≡ entry_with number rel called b k
  pub calls : map (call_of terms) m.calls ≡ filter_map (λ c. c) (calls_in program models k rel.wheres)
  pub demands : (entry : ℕ) → map (demand_of terms entry) m.entry.demands ≡ item_demands program models k entry (target_items program rel)

-- the entry, which is unmet
pub record IsUnmetBy (program : Program) (models : List ModelData) (number : ℕ) (rel : Rel) (called : Bool) (b : TermValues) (k : Known) (terms : List Term) (u : UnmetEntry) : Type 0 where
  pub entry : entry_in terms u.entry ≡ entry_with number rel called b k
  pub place : unmet_at program models rel k ≡ Some u.place
  pub demands : u.entry.demands ≡ []

abbrev pub IsOutcomeBy : Program → List ModelData → ℕ → Rel → Bool → TermValues → Known → List Term → Made → Type 0
IsOutcomeBy program models number rel called b k terms (outcomes.Met m) = (unmet_at program models rel k ≡ None) × IsMadeBy program models number rel called b k terms m
IsOutcomeBy program models number rel called b k terms (outcomes.Unmet u) = IsUnmetBy program models number rel called b k terms u

-- ---- in a table

-- the entry of a binding, which is met, with its calls and demands
pub record IsMet (program : Program) (models : List ModelData) (terms : List Term) (number : ℕ) (rel : Rel) (called : Bool) (b : TermValues) (m : MetEntry) : Type 0 where
  pub entry : entry_in terms m.entry ≡ entry_of program models number rel called b
  pub met : is_entry_unmet program models (entry_in terms m.entry) ≡ false
  pub calls : map (call_of terms) m.calls ≡ entry_calls program models (entry_in terms m.entry)
  pub demands : MakesDemands program models terms m.entry
  pub within : IsEntryWithin terms m.entry
  pub calls_within : All (IsCallWithin terms) m.calls

-- the entry of a binding, which is unmet
pub record IsUnmetOf (program : Program) (models : List ModelData) (terms : List Term) (number : ℕ) (rel : Rel) (called : Bool) (b : TermValues) (u : UnmetEntry) : Type 0 where
  pub entry : entry_in terms u.entry ≡ entry_of program models number rel called b
  pub place : IsUnmetAt program models (entry_in terms u.entry) u.place
  pub within : IsEntryWithin terms u.entry

abbrev pub IsOutcome : Program → List ModelData → List Term → ℕ → Rel → Bool → TermValues → Made → Type 0
IsOutcome program models terms number rel called b (outcomes.Met m) = IsMet program models terms number rel called b m
IsOutcome program models terms number rel called b (outcomes.Unmet u) = IsUnmetOf program models terms number rel called b u

-- ---- bindings

-- values for the variables of a relation, from which its entry can be made
pub record IsBindingIn (program : Program) (rel : Rel) (terms : List Term) (b : List (Option NumberedValue)) : Type 0 where
  pub places : length b ≡ length rel.vars
  pub within : All (IsValueWithin terms) b
  pub given : AreGiven program rel (values_in terms b)

-- the entries of these bindings, each of which is met, with their calls and demands
pub record AreMade (program : Program) (models : List ModelData) (terms : List Term) (number : ℕ) (rel : Rel) (called : Bool) (bs : List TermValues) (found : Found) : Type 0 where
  pub entries : entries_in terms found.entries ≡ map (entry_of program models number rel called) bs
  pub met : All (λ e. is_entry_unmet program models e ≡ false) (entries_in terms found.entries)
  pub calls : map (call_of terms) found.calls ≡ flat_map (entry_calls program models) (entries_in terms found.entries)
  pub demands : All (MakesDemands program models terms) found.entries
  pub within : All (IsEntryWithin terms) found.entries
  pub calls_within : All (IsCallWithin terms) found.calls

-- the entry of one of these bindings, which is unmet
pub record IsOneUnmet (program : Program) (models : List ModelData) (terms : List Term) (number : ℕ) (rel : Rel) (called : Bool) (bs : List TermValues) (u : UnmetEntry) : Type 0 where
  pub b : TermValues
  pub among : Contains bs b
  pub is : IsUnmetOf program models terms number rel called b u
